use Rattle.std.proofs.Common.{◌≡◌, ◌⊎◌, ◌∙◌, ap, inr, subst}
use Rattle.grants.specs.Bases.{FitsBase}
use Rattle.store_tables.specs.Sets.{SameSet}
use Rattle.desk.specs.Rebuilding.{Rebuilds, RefusesToRebuild}
use Rattle.desk.specs.Refusals.{IsWant}
use Rattle.desk.specs.declared.refusal.Refusal.TheVariants.{BaseTooLarge}
use Rattle.desk.proofs.RebuildingLemmas.{last_refused, not_rebuilt_again, rebuilt_still, rebuilt_twice}
use Rattle.desk.proofs.RestartLemmas.{of_opened, of_refused, set_of_same, was_up_of}
use Rattle.desk.proofs.rebuilding_laws.rebuild_twice.Goals as goal

pub returns-in-Ok-clause-keeps : goal.returns-in-Ok-clause-keeps
returns-in-Ok-clause-keeps g c =
    let K = g.K.Keeper in
    let before = c.args.keeper in
    let between = c.in-Ok.desk.keeper in
    let k = c.into_keeper.result in
    let same : SameSet (K.holds between) (K.holds k) = set_of_same k between c.into_keeper.ensures.same K.holds (K.holds k) (λ m. (λ h. h, λ h. h)) in
    of_opened c.rebuild-in-Ok.result
    (λ d. K.is_up d.keeper → Rebuilds (K.is_empty k) (K.is_desk k) (K.is_old k) (K.holds k) (K.holds d.keeper))
    (λ d. K.is_up d.keeper → K.is_up k)
    (λ d. K.is_up d.keeper → Rebuilds (K.is_empty before) (K.is_desk before) (K.is_old before) (K.holds before) (K.holds d.keeper))
    (λ r. K.is_up r.1 → K.is_up k)
    (λ d keeps was up.
    let there : K.is_up between = subst K.is_up c.into_keeper.ensures.same (was up) in
    rebuilt_twice (K.is_empty before) (K.is_desk before) (K.is_old before) (K.is_empty k) (K.is_desk k) (K.is_old k) (K.holds before) (K.holds between)
    (K.holds k) (K.holds d.keeper) (c.into_keeper.ensures.desk (was up)) (c.in-Ok.ensures.keeps there) same (keeps up)) c.rebuild-in-Ok.ensures.keeps
    (was_up_of _ _ _ _ _ c.rebuild-in-Ok.result c.rebuild-in-Ok.ensures.served)

pub returns-in-Ok-clause-refused : goal.returns-in-Ok-clause-refused
returns-in-Ok-clause-refused g c =
    let K = g.K.Keeper in
    let before = c.args.keeper in
    let k = c.into_keeper.result in
    let Fits = FitsBase c.args.last.1 in
    let First = FitsBase c.args.first.1 in
    of_refused c.rebuild-in-Ok.result
    (λ r. K.is_up r.1 → IsWant r.0 ⊎ RefusesToRebuild Fits (K.is_empty k) (K.is_desk k) (K.is_old k) r.0)
    (λ r. K.is_up r.1 → K.is_up k)
    (λ r. K.is_up r.1 → IsWant r.0 ⊎ RefusesToRebuild First (K.is_empty before) (K.is_desk before) (K.is_old before) r.0
    ⊎ ((r.0 ≡ BaseTooLarge) × First × (¬ Fits)))
    (λ d. K.is_up d.keeper → K.is_up k)
    (λ r refused was up. last_refused First Fits _ r.0 c.in-Ok.ensures.fits
    (not_rebuilt_again Fits (K.is_empty k) (K.is_desk k) (K.is_old k) r.0 (c.into_keeper.ensures.desk (was up)) (refused up)))
    c.rebuild-in-Ok.ensures.refused
    (was_up_of _ _ _ _ _ c.rebuild-in-Ok.result c.rebuild-in-Ok.ensures.served)

pub returns-in-Ok-clause-unchanged : goal.returns-in-Ok-clause-unchanged
returns-in-Ok-clause-unchanged g c =
    let K = g.K.Keeper in
    let laws = g.met.K.Keeper in
    let before = c.args.keeper in
    let between = c.in-Ok.desk.keeper in
    let k = c.into_keeper.result in
    of_refused c.rebuild-in-Ok.result
    (λ r. K.is_up r.1 → K.is_same k r.1)
    (λ r. K.is_up r.1 → K.is_up k)
    (λ r. K.is_up r.1 → K.is_same before r.1 ⊎ (FitsBase c.args.first.1 × K.is_desk r.1 × (K.roster r.1 ≡ c.args.first.0.text)
    × Rebuilds (K.is_empty before) (K.is_desk before) (K.is_old before) (K.holds before) (K.holds r.1)))
    (λ d. K.is_up d.keeper → K.is_up k)
    (λ r same was up.
    let there : K.is_up between = subst K.is_up c.into_keeper.ensures.same (was up) in
    let desk = c.into_keeper.ensures.desk (was up) in
    let of_k : SameSet (K.holds between) (K.holds r.1) =
    set_of_same k between c.into_keeper.ensures.same K.holds (K.holds r.1) (laws.stays_set k r.1 (same up) desk) in
    inr (
      c.in-Ok.ensures.fits,
      laws.stays_desk k r.1 (same up) desk,
      laws.stays_roster k r.1 (same up) desk ∙ c.into_keeper.ensures.roster (was up) ∙ ap (λ x. x.text) c.in-Ok.ensures.handed_in.0,
      rebuilt_still (K.is_empty before) (K.is_desk before) (K.is_old before)
          (K.holds before) (K.holds between) (K.holds r.1) (c.in-Ok.ensures.keeps there) of_k,
    ))
    c.rebuild-in-Ok.ensures.unchanged
    (was_up_of _ _ _ _ _ c.rebuild-in-Ok.result c.rebuild-in-Ok.ensures.served)
