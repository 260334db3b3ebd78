use Rattle.std.proofs.Common.{◌≡◌, ◌∙◌, List, Err, ap, string_bytes, subst, sym}
use Rattle.sudo_policy.specs.declared.entry.Entry.{Entry}
use Rattle.roster.specs.Fields.{Reading}
use Rattle.desk_store.specs.Keeping.{HasFailed}
use Rattle.desk_store.specs.Sets.{SameSet}
use Rattle.desk_store.proofs.ServingLemmas.{failed_later}
use Rattle.desk_commands.specs.Reviewing.{ReviewsDesk}
use Rattle.desk_commands.specs.Taking.{HeldWith, Takes}
use Rattle.desk_commands.proofs.PrintLemmas.{reviews, wants_end_report}
use Rattle.desk_args.specs.declared.status.ExitStatus.TheVariants.{Done}
use Rattle.desk_commands.proofs.LeavingLemmas.{says, taken_stay}
use Rattle.desk_store.proofs.ServingLemmas.{served_as, served_then}
use Rattle.desk_commands.proofs.WantLemmas.{wanting_still}
use Rattle.desk_commands.proofs.reviewing.review_of.Goals as goal

pub returns-in-Ok-clause-found : goal.returns-in-Ok-clause-found
returns-in-Ok-clause-found g c =
    let K = g.K.Keeper in
    let laws = g.met.K.Keeper in
    let input = g.R.Read.remaining c.args.input.now in
    let old = c.args.desk.now in
    let mid = c.take_input.new.desk in
    let new = c.report.new.desk in
    let taking = c.in_ok-take_input.ensures.taken in
    let same_roster : mid.roster ≡ old.roster = c.in_ok-take_input.ensures.settings.roster in
    let same_base : mid.base ≡ old.base = c.in_ok-take_input.ensures.settings.base in
    let taken : Takes c.args.store.now mid.roster.says input taking.0 taking.1 =
    subst (λ (r : Reading). Takes c.args.store.now r.says input taking.0 taking.1) (sym same_roster) taking.2 in
    let held : K.is_up mid.keeper → SameSet (HeldWith mid.roster.says taking.0 (K.holds old.keeper)) (K.holds mid.keeper) =
    subst (λ (r : Reading). K.is_up mid.keeper → SameSet (HeldWith r.says taking.0 (K.holds old.keeper)) (K.holds mid.keeper)) (sym same_roster) taking.4 in
    let of_mid = reviews mid.roster.says mid.base c.args.store.now input (K.holds old.keeper) (K.holds mid.keeper) (K.holds new.keeper)
    (K.is_up new.keeper × K.is_desk new.keeper) (K.is_up new.keeper) (K.is_up mid.keeper) taking.0 taking.1 taken held c.args.at
    (string_bytes c.in-Ok.text) (λ known. known.0) c.report.ensures.asks.served.was_up
    (λ set up lists. c.in-Ok.ensures.report set up lists)
    (λ known. let same = c.report.ensures.asks.unchanged known.0 in
    laws.stays_set mid.keeper new.keeper same (laws.stays_desk new.keeper mid.keeper (laws.same_back mid.keeper new.keeper same) known.1)) in (
      taking.1,
      subst (λ (b : List Entry). ReviewsDesk old.roster.says b c.args.store.now c.args.at (K.holds old.keeper) (K.holds new.keeper)
          (K.is_up new.keeper × K.is_desk new.keeper) input Done (string_bytes c.in-Ok.text) taking.1) same_base
          (subst (λ (r : Reading). ReviewsDesk r.says mid.base c.args.store.now c.args.at (K.holds old.keeper) (K.holds new.keeper)
          (K.is_up new.keeper × K.is_desk new.keeper) input Done (string_bytes c.in-Ok.text) taking.1) same_roster of_mid),
      taking.3,
    )

pub returns-in-Err-clause-cause : goal.returns-in-Err-clause-cause
returns-in-Err-clause-cause g c =
    wants_end_report c.args.store.now (HasFailed (g.K.Keeper.failures c.args.desk.now.keeper) (g.K.Keeper.failures c.report.new.desk.keeper)) c.in-Err.refusal
    c.in-Err.ensures.err (λ storage. failed_later _ _ _ c.take_input.ensures.served.counts (c.report.ensures.asks.served.cause (c.in-Err.is ∙ ap Err storage)))

pub returns-in-Ok-clause-left : goal.returns-in-Ok-clause-left
returns-in-Ok-clause-left g c = λ up desk.
    let K = g.K.Keeper in
    let laws = g.met.K.Keeper in
    let old = c.args.desk.now in
    let mid = c.take_input.new.desk in
    let new = c.report.new.desk in
    let same = c.report.ensures.asks.unchanged up in
    taken_stay old.roster.says (g.R.Read.remaining c.args.input.now) c.args.store.now (K.holds old.keeper) (K.holds mid.keeper) (K.holds new.keeper)
    (c.take_input.ensures.left (c.report.ensures.asks.served.was_up up))
    (laws.stays_set mid.keeper new.keeper same (laws.stays_desk new.keeper mid.keeper (laws.same_back mid.keeper new.keeper same) desk))

pub returns-in-Err-clause-left : goal.returns-in-Err-clause-left
returns-in-Err-clause-left g c = λ up desk.
    let K = g.K.Keeper in
    let laws = g.met.K.Keeper in
    let old = c.args.desk.now in
    let mid = c.take_input.new.desk in
    let new = c.report.new.desk in
    let same = c.report.ensures.asks.unchanged up in
    taken_stay old.roster.says (g.R.Read.remaining c.args.input.now) c.args.store.now (K.holds old.keeper) (K.holds mid.keeper) (K.holds new.keeper)
    (c.take_input.ensures.left (c.report.ensures.asks.served.was_up up))
    (laws.stays_set mid.keeper new.keeper same (laws.stays_desk new.keeper mid.keeper (laws.same_back mid.keeper new.keeper same) desk))

pub returns-in-Err-clause-said : goal.returns-in-Err-clause-said
returns-in-Err-clause-said g c =
    let taking = c.in_ok-take_input.ensures.taken in
    says c.args.desk.now.roster.says (g.R.Read.remaining c.args.input.now) c.args.store.now taking.0 taking.1 (g.E.Write.contents c.args.err.now)
    (g.E.Write.contents c.take_input.new.err) taking.2 taking.3

-- ---- what storage did

pub returns-in_err-take_input-clause-served : goal.returns-in_err-take_input-clause-served
returns-in_err-take_input-clause-served g c =
    served_as ⊥ _ (λ none. none) (wanting_still c.in_err-take_input.field-0.0 c.take_input.result
    c.from_residual.result c.in_err-take_input.was c.from_residual.ensures.1) c.take_input.ensures.served

pub returns-in-Ok-clause-served : goal.returns-in-Ok-clause-served
returns-in-Ok-clause-served g c =
    served_then (λ none. absurd none) c.in_ok-take_input.ensures.served (served_as ⊥ ⊥ (λ none. absurd none) (λ none. none) c.in-Ok.ensures.asks.served)

pub returns-in-Err-clause-served : goal.returns-in-Err-clause-served
returns-in-Err-clause-served g c =
    served_then (λ none. absurd none) c.in_ok-take_input.ensures.served (served_as ⊥ _ (λ none. absurd none) (λ want. want) c.in-Err.ensures.asks.served)
