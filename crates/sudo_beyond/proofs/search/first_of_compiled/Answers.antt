use Rattle.std.proofs.Common.{ℕ, List, take, sym, subst}
use Rattle.std.specs.List.{flat_map}
use Rattle.sudo_beyond.specs.Cases.{of_user}
use Rattle.sudo_beyond.specs.Answer.{IsFirstWith}
use Rattle.sudo_beyond.specs.private.Compared.{IsAnsweredGap}
use Rattle.sudo_beyond.proofs.Gaps.{NoGap, gap_here}
use Rattle.sudo_beyond.proofs.search.first_of_compiled.Goals as goal

pub returns-in-Some : goal.returns-in-Some
returns-in-Some c =
    subst (λ (xs : List (List ℕ)). IsFirstWith (IsAnsweredGap c.args.a.now c.args.b.now) (flat_map (of_user c.args.cases.now) xs) c.in-Some.i)
    c.as_slice-user-items.ensures (gap_here (IsAnsweredGap c.args.a.now c.args.b.now)
    (of_user c.args.cases.now) c.as_slice-user-items.result.now c.loop-user.user-index c.user-item.result c.in-Some.i c.loop-user-test.true c.user-item.is
    (subst (λ (xs : List (List ℕ)). NoGap (IsAnsweredGap c.args.a.now c.args.b.now) (flat_map (of_user c.args.cases.now) (take c.loop-user.user-index xs)))
    (sym c.as_slice-user-items.ensures) c.loop-user.invariant) (rw c.in-Some.is at c.in_ok-i.ensures))
