use Rattle.std.proofs.Common.{◌≡◌, ◌⊎◌, ◌∙◌, sym}
use Rattle.grants.specs.Bases.{FitsBase}
use Rattle.store_tables.specs.Sets.{SameSet}
use Rattle.desk.specs.Rebuilding.{Rebuilds, RefusesToRebuild}
use Rattle.desk.specs.Refusals.{IsWant}
use Rattle.desk.specs.Same.{AnswerAlike}
use Rattle.desk.specs.declared.refusal.Refusal.TheVariants.{BaseTooLarge}
use Rattle.desk.proofs.RebuildingLemmas.{not_rebuilt_again, rebuilt_again}
use Rattle.desk.proofs.RestartLemmas.{of_both, of_opened, of_refused, same_answers, set_of_same, was_up_of}
use Rattle.desk.proofs.rebuilding_laws.rebuild_again.Goals as goal

pub returns-clause-held : goal.returns-clause-held
returns-clause-held g c =
    let K = g.K.Keeper in
    let old = c.args.desk.keeper in
    let k = c.into_keeper.result in
    let same : SameSet (K.holds old) (K.holds k) = set_of_same k old c.into_keeper.ensures.same K.holds (K.holds k) (λ m. (λ h. h, λ h. h)) in
    of_opened c.rebuild.result
    (λ d. K.is_up d.keeper → Rebuilds (K.is_empty k) (K.is_desk k) (K.is_old k) (K.holds k) (K.holds d.keeper))
    (λ d. K.is_up d.keeper → K.is_up k)
    (λ d. K.is_up d.keeper → SameSet (K.holds old) (K.holds d.keeper))
    (λ r. K.is_up r.1 → K.is_up k)
    (λ d keeps was up.
    rebuilt_again (K.is_empty k) (K.is_desk k) (K.is_old k) (K.holds old) (K.holds k) (K.holds d.keeper) (c.into_keeper.ensures.desk (was up)) same (keeps up))
    c.rebuild.ensures.keeps
    (was_up_of _ _ _ _ _ c.rebuild.result c.rebuild.ensures.served)

pub returns-clause-nothing_changes : goal.returns-clause-nothing_changes
returns-clause-nothing_changes g c =
    let K = g.K.Keeper in
    let desk = c.args.desk in
    let old = desk.keeper in
    of_both c.rebuild.result
    (λ d. K.is_up d.keeper → SameSet (K.holds old) (K.holds d.keeper))
    (λ d. (d.roster ≡ c.args.roster) × (d.base ≡ c.args.base))
    (λ d. K.is_up d.keeper → desk.roster ≡ c.args.roster → (d.roster ≡ desk.roster) × AnswerAlike desk.roster.says (K.holds old) (K.holds d.keeper))
    (λ d held handed up same. (handed.0 ∙ sym same, same_answers desk.roster.says (K.holds old) (K.holds d.keeper) (held up)))
    (returns-clause-held g c)
    c.rebuild.ensures.handed_in

pub returns-clause-unchanged : goal.returns-clause-unchanged
returns-clause-unchanged g c =
    let K = g.K.Keeper in
    let old = c.args.desk.keeper in
    let k = c.into_keeper.result in
    of_refused c.rebuild.result (λ r. K.is_up r.1 → K.is_same k r.1) (λ r. K.is_up r.1 → K.is_up k) (λ r. K.is_up r.1 → SameSet (K.holds old) (K.holds r.1))
    (λ d. K.is_up d.keeper → K.is_up k) (λ r same was up. set_of_same k old c.into_keeper.ensures.same K.holds (K.holds r.1) (g.met.K.Keeper.stays_set k r.1
    (same up) (c.into_keeper.ensures.desk (was up)))) c.rebuild.ensures.unchanged (was_up_of _ _ _ _ _ c.rebuild.result c.rebuild.ensures.served)

pub returns-clause-refused : goal.returns-clause-refused
returns-clause-refused g c =
    let K = g.K.Keeper in
    let k = c.into_keeper.result in
    let Fits = FitsBase c.args.base in
    of_refused c.rebuild.result
    (λ r. K.is_up r.1 → IsWant r.0 ⊎ RefusesToRebuild Fits (K.is_empty k) (K.is_desk k) (K.is_old k) r.0)
    (λ r. K.is_up r.1 → K.is_up k)
    (λ r. K.is_up r.1 → IsWant r.0 ⊎ ((r.0 ≡ BaseTooLarge) × (¬ Fits)))
    (λ d. K.is_up d.keeper → K.is_up k)
    (λ r refused was up. not_rebuilt_again Fits (K.is_empty k) (K.is_desk k) (K.is_old k) r.0 (c.into_keeper.ensures.desk (was up)) (refused up))
    c.rebuild.ensures.refused
    (was_up_of _ _ _ _ _ c.rebuild.result c.rebuild.ensures.served)
