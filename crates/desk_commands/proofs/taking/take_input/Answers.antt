use Rattle.std.proofs.Common.{[], inl, inr, refl, subst, sym}
use Rattle.desk_commands.specs.Leaving.{LeavesTaken}
use Rattle.desk_commands.specs.Taking.{Takes}
use Rattle.desk_commands.proofs.BroughtLemmas.{nothing_brought}
use Rattle.desk_commands.proofs.OverLemmas.{nothing_said}
use Rattle.desk_commands.proofs.LeavingLemmas.{same_set}
use Rattle.desk_commands.proofs.taking.take_input.Goals as goal

pub returns-in-File-clause-taken : goal.returns-in-File-clause-taken
returns-in-File-clause-taken g c =
    let f = c.args.desk.now.roster.says in
    let input = g.R.Read.remaining c.args.input.now in (
      [],
      [],
      subst (λ s. Takes s f input [] []) (sym c.in-File.is) (refl, refl),
      nothing_said (g.E.Write.contents c.args.err.now),
      λ up m. (λ h. elim h [ inl old ↦ old | inr brought ↦ absurd (nothing_brought f m brought) ], λ old. inl old),
    )

pub returns-in-File-clause-left : goal.returns-in-File-clause-left
returns-in-File-clause-left g c = λ _.
    let holds = g.K.Keeper.holds c.args.desk.now.keeper in
    subst (λ s. LeavesTaken s c.args.desk.now.roster.says (g.R.Read.remaining c.args.input.now) holds holds) (sym c.in-File.is) (same_set holds)
