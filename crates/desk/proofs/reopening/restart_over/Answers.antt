use Rattle.std.proofs.Common.{◌≡◌, ◌≢◌, ◌⊎◌, ◌∙◌, ap, sym}
use Rattle.sqlite.specs.Held.{state}
use Rattle.store_tables.specs.Sets.{SameSet}
use Rattle.store_tables.specs.SqliteStates.{IsUp}
use Rattle.store_tables.specs.Kept.{HoldsText}
use Rattle.store_tables.specs.Stored.{content_of}
use Rattle.store_schema.specs.Shapes.{IsVacant}
use Rattle.store_opening.specs.Opened.{IsKept, IsOldDesk}
use Rattle.grants.specs.Bases.{FitsBase}
use Rattle.desk.specs.Opening.{Opens, Refuses}
use Rattle.desk.specs.Refusals.{IsWant}
use Rattle.desk.specs.Same.{AnswerAlike}
use Rattle.desk.specs.declared.refusal.Refusal.TheVariants.{BaseTooLarge, RosterChanged}
use Rattle.desk.proofs.RestartLemmas.{held_again, of_err, of_ok, of_opened, of_refused, recorded_text, refused_again, same_answers, set_of_same, was_up_of}
use Rattle.desk.proofs.reopening.restart_over.Goals as goal

pub returns-clause-held : goal.returns-clause-held
returns-clause-held g c =
    let S = g.S.Store in
    let old = (state S c.args.desk.keeper.conn).now in
    let given = c.into_keeper-keeper.result in
    let k = state S c.renewed.result.conn in
    let same : SameSet (HoldsText old) (HoldsText k.now) =
    set_of_same given c.args.desk.keeper c.into_keeper-keeper.ensures.same (λ x. HoldsText (state S x.conn).now) (HoldsText k.now) c.renewed.ensures.set in
    of_opened c.open.result (λ d. IsUp (state S d.keeper.conn) → Opens (IsVacant k.now.schema) (IsKept k.now)
    (IsOldDesk k.now) (content_of k.now).roster c.args.roster.text (HoldsText k.now) (HoldsText (state S d.keeper.conn).now))
    (λ d. IsUp (state S d.keeper.conn) → IsUp k) (λ d. IsUp (state S d.keeper.conn) → SameSet (HoldsText old) (HoldsText (state S d.keeper.conn).now))
    (λ r. IsUp (state S r.1.conn) → IsUp k) (λ d opens was up.
    let desk = c.renewed.ensures.desk.1 (c.into_keeper-keeper.ensures.desk (c.renewed.ensures.up.0 (was up))) in
    held_again (IsVacant k.now.schema) (IsKept k.now) (IsOldDesk k.now) (content_of k.now).roster c.args.roster.text (HoldsText old) (HoldsText k.now)
    (HoldsText (state S d.keeper.conn).now) desk same (opens up)) c.open.ensures.opens (was_up_of _ _ _ _ _ c.open.result c.open.ensures.served)

pub returns-clause-alike : goal.returns-clause-alike
returns-clause-alike g c =
    let S = g.S.Store in
    let f = c.args.desk.roster.says in
    let old = (state S c.args.desk.keeper.conn).now in
    of_ok c.open.result
    (λ d. IsUp (state S d.keeper.conn) → SameSet (HoldsText old) (HoldsText (state S d.keeper.conn).now))
    (λ d. IsUp (state S d.keeper.conn) → AnswerAlike f (HoldsText old) (HoldsText (state S d.keeper.conn).now))
    (λ d held up. same_answers f (HoldsText old) (HoldsText (state S d.keeper.conn).now) (held up))
    (returns-clause-held g c)

pub returns-clause-roster : goal.returns-clause-roster
returns-clause-roster g c =
    let S = g.S.Store in
    let k = state S c.renewed.result.conn in
    of_opened c.open.result (λ d. IsUp (state S d.keeper.conn) → Opens (IsVacant k.now.schema) (IsKept k.now) (IsOldDesk k.now)
    (content_of k.now).roster c.args.roster.text (HoldsText k.now) (HoldsText (state S d.keeper.conn).now)) (λ d. IsUp (state S d.keeper.conn) → IsUp k)
    (λ d. IsUp (state S d.keeper.conn) → c.args.desk.roster.text ≡ c.args.roster.text) (λ r. IsUp (state S r.1.conn) → IsUp k) (λ d opens was up.
    let given = c.renewed.ensures.up.0 (was up) in
    let desk = c.renewed.ensures.desk.1 (c.into_keeper-keeper.ensures.desk given) in
    sym (c.into_keeper-keeper.ensures.roster given) ∙ sym c.renewed.ensures.roster
    ∙ recorded_text (IsVacant k.now.schema) (IsKept k.now) (IsOldDesk k.now) (content_of k.now).roster c.args.roster.text (HoldsText k.now)
    (HoldsText (state S d.keeper.conn).now) desk (opens up)) c.open.ensures.opens (was_up_of _ _ _ _ _ c.open.result c.open.ensures.served)

pub returns-clause-unchanged : goal.returns-clause-unchanged
returns-clause-unchanged g c =
    let S = g.S.Store in
    let old = c.args.desk.keeper in
    let k = state S c.renewed.result.conn in
    of_err c.open.result
    (λ r. IsUp (state S r.1.conn) → (state S r.1.conn).now ≡ k.now)
    (λ r. IsUp (state S r.1.conn) → (state S r.1.conn).now ≡ (state S old.conn).now)
    (λ r same up. same up ∙ c.renewed.ensures.database ∙ ap (λ x. (state S x.conn).now) c.into_keeper-keeper.ensures.same)
    c.open.ensures.unchanged

pub returns-clause-refused : goal.returns-clause-refused
returns-clause-refused g c =
    let S = g.S.Store in
    let said = c.args.desk.roster.text in
    let text = c.args.roster.text in
    let k = state S c.renewed.result.conn in
    let Fits = FitsBase c.args.base in
    of_refused c.open.result
    (λ r. IsUp (state S r.1.conn) → IsWant r.0 ⊎ Refuses Fits (IsVacant k.now.schema) (IsKept k.now) (IsOldDesk k.now) (content_of k.now).roster text r.0)
    (λ r. IsUp (state S r.1.conn) → IsUp k)
    (λ r. IsUp (state S r.1.conn) → IsWant r.0 ⊎ ((r.0 ≡ BaseTooLarge) × (¬ Fits)) ⊎ ((r.0 ≡ RosterChanged) × (said ≢ text)))
    (λ d. IsUp (state S d.keeper.conn) → IsUp k)
    (λ r refused was up.
    let given = c.renewed.ensures.up.0 (was up) in
    let desk = c.renewed.ensures.desk.1 (c.into_keeper-keeper.ensures.desk given) in
    refused_again Fits (IsVacant k.now.schema) (IsKept k.now) (IsOldDesk k.now) (content_of k.now).roster said text r.0 desk
    (sym (c.into_keeper-keeper.ensures.roster given) ∙ sym c.renewed.ensures.roster) (refused up))
    c.open.ensures.refused
    (was_up_of _ _ _ _ _ c.open.result c.open.ensures.served)
