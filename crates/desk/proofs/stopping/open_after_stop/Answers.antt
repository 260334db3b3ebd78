use Rattle.std.proofs.Common.{◌≡◌, ◌⊎◌, Contains}
use Rattle.messages.specs.declared.message.Message.{Message}
use Rattle.grants.specs.Bases.{FitsBase}
use Rattle.store_tables.specs.Sets.{IsNothing, SameSet, With}
use Rattle.desk.specs.Crash.{IsAcceptable}
use Rattle.desk.specs.Delivery.{AcknowledgesAmong, Delivery}
use Rattle.desk.specs.Opening.{Opens, Refuses}
use Rattle.desk.specs.Refusals.{IsWant}
use Rattle.desk.specs.Same.{AnswerAlike}
use Rattle.desk.specs.declared.refusal.Refusal.TheVariants.{BaseTooLarge}
use Rattle.desk.proofs.RestartLemmas.{of_opened, of_refused, same_answers, was_up_of}
use Rattle.desk.proofs.StopLemmas.{base_alone, held_either, held_nothing, held_of_deliveries, held_of_delivery, held_whole}
use Rattle.desk.proofs.stopping.open_after_stop.Goals as goal

pub returns-clause-held : goal.returns-clause-held
returns-clause-held g c = λ list may.
    let L = g.L.Keeper in
    let k = c.args.found in
    let text = c.args.roster.text in
    of_opened c.open.result
    (λ d. L.is_up d.keeper → Opens (L.is_empty k) (L.is_desk k) (L.is_old k) (L.roster k) text (L.holds k) (L.holds d.keeper))
    (λ d. L.is_up d.keeper → L.is_up k)
    (λ d. L.is_up d.keeper → SameSet (λ m. Contains list m) (L.holds d.keeper))
    (λ r. L.is_up r.1 → L.is_up k)
    (λ d opens was up.
    let left = c.requires (was up) in
    held_whole (L.is_empty k) (L.is_desk k) (L.is_old k) (L.roster k) (L.holds k) text (L.holds d.keeper) (opens up) text
    (λ m. Contains list m) left.0 (may left.0 left.1) left.2) c.open.ensures.opens (was_up_of _ _ _ _ _ c.open.result c.open.ensures.served)

pub returns-clause-alike : goal.returns-clause-alike
returns-clause-alike g c = λ list may.
    let L = g.L.Keeper in
    let k = c.args.found in
    let text = c.args.roster.text in
    of_opened c.open.result
    (λ d. L.is_up d.keeper → Opens (L.is_empty k) (L.is_desk k) (L.is_old k) (L.roster k) text (L.holds k) (L.holds d.keeper))
    (λ d. L.is_up d.keeper → L.is_up k)
    (λ d. L.is_up d.keeper → AnswerAlike c.args.roster.says (λ m. Contains list m) (L.holds d.keeper))
    (λ r. L.is_up r.1 → L.is_up k)
    (λ d opens was up.
    let left = c.requires (was up) in
    same_answers c.args.roster.says (λ m. Contains list m) (L.holds d.keeper)
    (held_whole (L.is_empty k) (L.is_desk k) (L.is_old k) (L.roster k) (L.holds k) text (L.holds d.keeper) (opens up) text
    (λ m. Contains list m) left.0 (may left.0 left.1) left.2)) c.open.ensures.opens (was_up_of _ _ _ _ _ c.open.result c.open.ensures.served)

pub returns-clause-delivery : goal.returns-clause-delivery
returns-clause-delivery g c = λ list delivery may.
    let L = g.L.Keeper in
    let k = c.args.found in
    let text = c.args.roster.text in
    of_opened c.open.result
    (λ d. L.is_up d.keeper → Opens (L.is_empty k) (L.is_desk k) (L.is_old k) (L.roster k) text (L.holds k) (L.holds d.keeper))
    (λ d. L.is_up d.keeper → L.is_up k)
    (λ d. L.is_up d.keeper → SameSet (λ m. Contains list m) (L.holds d.keeper)
    ⊎ ((m : Message) × IsAcceptable c.args.roster.says delivery m × SameSet (With (λ n. Contains list n) m) (L.holds d.keeper)))
    (λ r. L.is_up r.1 → L.is_up k)
    (λ d opens was up.
    let left = c.requires (was up) in
    held_of_delivery (L.is_empty k) (L.is_desk k) (L.is_old k) (L.roster k) (L.holds k) text (L.holds d.keeper) (opens up) c.args.roster.says text
    (λ m. Contains list m) delivery left.0 (may left.0 left.1) left.2) c.open.ensures.opens (was_up_of _ _ _ _ _ c.open.result c.open.ensures.served)

pub returns-clause-deliveries : goal.returns-clause-deliveries
returns-clause-deliveries g c = λ list ds answers may.
    let L = g.L.Keeper in
    let k = c.args.found in
    let text = c.args.roster.text in
    of_opened c.open.result
    (λ d. L.is_up d.keeper → Opens (L.is_empty k) (L.is_desk k) (L.is_old k) (L.roster k) text (L.holds k) (L.holds d.keeper))
    (λ d. L.is_up d.keeper → L.is_up k)
    (λ d. L.is_up d.keeper → SameSet (λ m. Contains list m ⊎ AcknowledgesAmong ds answers m) (L.holds d.keeper)
    ⊎ ((e : Delivery) × Contains ds e × (m : Message) × IsAcceptable c.args.roster.says e m
    × SameSet (With (λ n. Contains list n ⊎ AcknowledgesAmong ds answers n) m) (L.holds d.keeper)))
    (λ r. L.is_up r.1 → L.is_up k)
    (λ d opens was up.
    let left = c.requires (was up) in
    held_of_deliveries (L.is_empty k) (L.is_desk k) (L.is_old k) (L.roster k) (L.holds k) text (L.holds d.keeper) (opens up) c.args.roster.says text
    (λ m. Contains list m) ds answers left.0 (may left.0 left.1) left.2) c.open.ensures.opens (was_up_of _ _ _ _ _ c.open.result c.open.ensures.served)

pub returns-clause-making : goal.returns-clause-making
returns-clause-making g c = λ may.
    let L = g.L.Keeper in
    let k = c.args.found in
    let text = c.args.roster.text in
    of_opened c.open.result
    (λ d. L.is_up d.keeper → Opens (L.is_empty k) (L.is_desk k) (L.is_old k) (L.roster k) text (L.holds k) (L.holds d.keeper))
    (λ d. L.is_up d.keeper → L.is_up k)
    (λ d. L.is_up d.keeper → IsNothing (L.holds d.keeper))
    (λ r. L.is_up r.1 → L.is_up k)
    (λ d opens was up.
    let left = c.requires (was up) in
    held_nothing (L.is_empty k) (L.is_desk k) (L.is_old k) (L.roster k) (L.holds k) text (L.holds d.keeper) (opens up) text left.0 (may left.0 left.1) left.2)
    c.open.ensures.opens
    (was_up_of _ _ _ _ _ c.open.result c.open.ensures.served)

pub returns-clause-rebuilding : goal.returns-clause-rebuilding
returns-clause-rebuilding g c = λ list recorded may.
    let L = g.L.Keeper in
    let k = c.args.found in
    let text = c.args.roster.text in
    of_opened c.open.result
    (λ d. L.is_up d.keeper → Opens (L.is_empty k) (L.is_desk k) (L.is_old k) (L.roster k) text (L.holds k) (L.holds d.keeper))
    (λ d. L.is_up d.keeper → L.is_up k)
    (λ d. L.is_up d.keeper → SameSet (λ m. Contains list m) (L.holds d.keeper))
    (λ r. L.is_up r.1 → L.is_up k)
    (λ d opens was up.
    let left = c.requires (was up) in
    held_either (L.is_empty k) (L.is_desk k) (L.is_old k) (L.roster k) (L.holds k) text (L.holds d.keeper) (opens up) recorded text
    (λ m. Contains list m) left.0 (may left.0 left.1) left.2) c.open.ensures.opens (was_up_of _ _ _ _ _ c.open.result c.open.ensures.served)

pub returns-clause-refused : goal.returns-clause-refused
returns-clause-refused g c = λ list may.
    let L = g.L.Keeper in
    let k = c.args.found in
    let text = c.args.roster.text in
    let Fits = FitsBase c.args.base in
    of_refused c.open.result
    (λ r. L.is_up r.1 → IsWant r.0 ⊎ Refuses Fits (L.is_empty k) (L.is_desk k) (L.is_old k) (L.roster k) text r.0)
    (λ r. L.is_up r.1 → L.is_up k)
    (λ r. L.is_up r.1 → IsWant r.0 ⊎ ((r.0 ≡ BaseTooLarge) × (¬ Fits)))
    (λ d. L.is_up d.keeper → L.is_up k)
    (λ r refused was up.
    let left = c.requires (was up) in
    base_alone (L.is_empty k) (L.is_desk k) (L.is_old k) (L.roster k) (L.holds k) Fits text (λ m. Contains list m) left.0 r.0
    (may left.0 left.1) left.2 (refused up)) c.open.ensures.refused (was_up_of _ _ _ _ _ c.open.result c.open.ensures.served)
