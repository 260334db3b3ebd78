use Rattle.std.proofs.Common.{◌≡◌, ◌∙◌, sym}
use Rattle.store_tables.specs.Sets.{SameSet}
use Rattle.desk.specs.Opening.{Opens}
use Rattle.desk.specs.Same.{AnswerAlike}
use Rattle.desk.proofs.RestartLemmas.{held_again, of_opened, of_refused, recorded_text, same_answers, set_of_same, was_up_of}
use Rattle.desk.proofs.reopening.restart.Goals as goal

pub returns-clause-alike : goal.returns-clause-alike
returns-clause-alike g c =
    let K = g.K.Keeper in
    let f = c.args.desk.roster.says in
    let old = c.args.desk.keeper in
    let k = c.into_keeper.result in
    let same : SameSet (K.holds old) (K.holds k) = set_of_same k old c.into_keeper.ensures.same K.holds (K.holds k) (λ m. (λ h. h, λ h. h)) in
    of_opened c.open.result
    (λ d. K.is_up d.keeper → Opens (K.is_empty k) (K.is_desk k) (K.is_old k) (K.roster k) c.args.roster.text (K.holds k) (K.holds d.keeper))
    (λ d. K.is_up d.keeper → K.is_up k) (λ d. K.is_up d.keeper → AnswerAlike f (K.holds old) (K.holds d.keeper)) (λ r. K.is_up r.1 → K.is_up k)
    (λ d opens was up. same_answers f (K.holds old) (K.holds d.keeper) (held_again (K.is_empty k) (K.is_desk k) (K.is_old k) (K.roster k) c.args.roster.text
    (K.holds old) (K.holds k) (K.holds d.keeper) (c.into_keeper.ensures.desk (was up)) same (opens up))) c.open.ensures.opens
    (was_up_of _ _ _ _ _ c.open.result c.open.ensures.served)

pub returns-clause-held : goal.returns-clause-held
returns-clause-held g c =
    let K = g.K.Keeper in
    let old = c.args.desk.keeper in
    let k = c.into_keeper.result in
    let same : SameSet (K.holds old) (K.holds k) = set_of_same k old c.into_keeper.ensures.same K.holds (K.holds k) (λ m. (λ h. h, λ h. h)) in
    of_opened c.open.result
    (λ d. K.is_up d.keeper → Opens (K.is_empty k) (K.is_desk k) (K.is_old k) (K.roster k) c.args.roster.text (K.holds k) (K.holds d.keeper))
    (λ d. K.is_up d.keeper → K.is_up k) (λ d. K.is_up d.keeper → SameSet (K.holds old) (K.holds d.keeper)) (λ r. K.is_up r.1 → K.is_up k)
    (λ d opens was up. held_again (K.is_empty k) (K.is_desk k) (K.is_old k) (K.roster k) c.args.roster.text (K.holds old) (K.holds k) (K.holds d.keeper)
    (c.into_keeper.ensures.desk (was up)) same (opens up)) c.open.ensures.opens (was_up_of _ _ _ _ _ c.open.result c.open.ensures.served)

pub returns-clause-roster : goal.returns-clause-roster
returns-clause-roster g c =
    let K = g.K.Keeper in
    let k = c.into_keeper.result in
    of_opened c.open.result
    (λ d. K.is_up d.keeper → Opens (K.is_empty k) (K.is_desk k) (K.is_old k) (K.roster k) c.args.roster.text (K.holds k) (K.holds d.keeper))
    (λ d. K.is_up d.keeper → K.is_up k) (λ d. K.is_up d.keeper → c.args.desk.roster.text ≡ c.args.roster.text) (λ r. K.is_up r.1 → K.is_up k)
    (λ d opens was up. sym (c.into_keeper.ensures.roster (was up)) ∙ recorded_text (K.is_empty k) (K.is_desk k) (K.is_old k)
    (K.roster k) c.args.roster.text (K.holds k) (K.holds d.keeper) (c.into_keeper.ensures.desk (was up)) (opens up)) c.open.ensures.opens
    (was_up_of _ _ _ _ _ c.open.result c.open.ensures.served)

pub returns-clause-unchanged : goal.returns-clause-unchanged
returns-clause-unchanged g c =
    let K = g.K.Keeper in
    let old = c.args.desk.keeper in
    let k = c.into_keeper.result in
    of_refused c.open.result (λ r. K.is_up r.1 → K.is_same k r.1) (λ r. K.is_up r.1 → K.is_up k) (λ r. K.is_up r.1 → SameSet (K.holds old) (K.holds r.1))
    (λ d. K.is_up d.keeper → K.is_up k) (λ r same was up. set_of_same k old c.into_keeper.ensures.same K.holds (K.holds r.1) (g.met.K.Keeper.stays_set k r.1
    (same up) (c.into_keeper.ensures.desk (was up)))) c.open.ensures.unchanged (was_up_of _ _ _ _ _ c.open.result c.open.ensures.served)
