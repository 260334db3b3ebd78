-- How an arriving message changes a desk, whether it was taken in or refused.
use Rattle.std.proofs.Common.{◌≡◌, ◌∙◌, true, List, ℕ, Result, Ok, Err, ap, sym, subst}
use Rattle.std.specs.Prelude.{OnErr, OnOk}
use Rattle.sqlite.specs.Effect.{Database}
use Rattle.sqlite.specs.State.{State}
use Rattle.messages.specs.Wire.{wire, IsMessage}
use Rattle.messages.specs.declared.message.Message.{Message}
use Rattle.store_tables.specs.Arrivals.{IsTold}
use Rattle.store_tables.specs.declared.arrival.Arrival.{Arrival}
use Rattle.store_tables.specs.declared.arrival.Arrival.TheVariants.{New, Held}
use Rattle.store_tables.specs.Kept.{HoldsText, IsDeskDatabase, Spares}
use Rattle.store_tables.specs.SqliteStates.{IsUp}
use Rattle.store_tables.specs.Stored.{content_of, has, with_text}
use Rattle.store_schema.proofs.MarksLemmas.{unmarked_still}
use Rattle.store_opening.specs.Opened.{IsKept}

-- by the text that was given, where this is the message's
pub content_wired : (old new : Database) (m : Message) (text : List ℕ) → text ≡ wire m
    → content_of new ≡ with_text text (content_of old) → content_of new ≡ with_text (wire m) (content_of old)
content_wired old new m text is content = content ∙ ap (λ t. with_text t (content_of old)) is

pub held_wired : (db : Database) (m : Message) (text : List ℕ) → text ≡ wire m → HoldsText db m → has (content_of db) text ≡ true
held_wired db m text is held = ap (has (content_of db)) is ∙ held.1

-- what is told of a message's text is told of the message
pub told_wired : (db : Database) (m : Message) (text : List ℕ) (arrival : Arrival) → IsMessage m → text ≡ wire m
    → IsTold (has (content_of db) text ≡ true) arrival → IsTold (HoldsText db m) arrival
told_wired db m text Held is wired there = (is, ap (has (content_of db)) (sym wired) ∙ there)
told_wired db m text New is wired absent = λ held. absent (held_wired db m text wired held)

-- a desk stays one
pub arrival_keeps : {A E : Type 0} (old new : State) (r : Result A E) → (IsUp old → IsKept old.now) → (IsUp new → IsUp old)
    → (IsUp new → IsDeskDatabase new.now) → (IsUp new → OnOk r (Spares old.now new.now)) → (IsUp new → OnErr r (new.now ≡ old.now)) → IsUp new → IsKept new.now
arrival_keeps old new (Ok x) kept was_up desk others unchanged up =
    let was = kept (was_up up) in
    record { desk = desk up; unmarked = unmarked_still old.now new.now was.desk.tidy.desk (others up) was.unmarked }
arrival_keeps old new (Err e) kept was_up desk others unchanged up = subst IsKept (sym (unchanged up)) (kept (was_up up))
