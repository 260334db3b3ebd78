-- What a desk holds that is opened over what a crash left.
use Rattle.std.specs.Prelude.{◌⊎◌, ℕ, List, Contains, Result}
use Rattle.sudo_words.specs.declared.cmnd.Cmnd.{Cmnd}
use Rattle.messages.specs.declared.message.Message.{Message}
use Rattle.roster.specs.Fields.{RosterFields}
use Rattle.store_tables.specs.Sets.{IsNothing, SameSet, With}
use Rattle.desk_store.specs.Left.{Left, IsDeskOf, IsNothingOrFresh, LeavesOnly}
use Rattle.desk.specs.Crash.{IsAcceptable, IsLeftByDeliveries, IsLeftByDelivery}
use Rattle.desk.specs.Delivery.{AcknowledgesAmong, Delivery}
use Rattle.desk.specs.declared.ack.Ack.{Ack}
use Rattle.desk.specs.declared.refusal.Refusal.{Refusal}

-- What was held and all that was acknowledged is held, or that with one message more, which one of
-- the deliveries brought and which is to be acknowledged.
abbrev pub HoldsAcked : RosterFields Cmnd → (old : Message → Type 0) → List Delivery
    → List (Result Ack Refusal) → (new : Message → Type 0) → Type 0
HoldsAcked f old ds answers new =
    SameSet (λ m. old m ⊎ AcknowledgesAmong ds answers m) new
    ⊎ ((d : Delivery) × Contains ds d × (m : Message) × IsAcceptable f d m
    × SameSet (With (λ n. old n ⊎ AcknowledgesAmong ds answers n) m) new)

-- What a desk with this roster text holds, by what the crash could leave. If the stop came between
-- calls, or after an acknowledgement, it is what was held; if it came in a delivery, that with the
-- message or without it; if it came in or after many deliveries, of which some failed, what was
-- held and all that was acknowledged, or one message more. If a desk was being made, it is nothing;
-- and if one was being rebuilt, what it held.
pub record HoldsLeft (Leaves : Left → Type 0) (text : List ℕ)
    (held : Message → Type 0) : Type 0 where
  pub whole : (list : List Message) → LeavesOnly Leaves (IsDeskOf text (λ m. Contains list m))
      → SameSet (λ m. Contains list m) held
  pub delivery : (f : RosterFields Cmnd) (list : List Message) (d : Delivery)
      → LeavesOnly Leaves (IsLeftByDelivery f text (λ m. Contains list m) d)
      → SameSet (λ m. Contains list m) held
      ⊎ ((m : Message) × IsAcceptable f d m × SameSet (With (λ n. Contains list n) m) held)
  pub deliveries : (f : RosterFields Cmnd) (list : List Message) (ds : List Delivery)
      (answers : List (Result Ack Refusal))
      → LeavesOnly Leaves (IsLeftByDeliveries f text (λ m. Contains list m) ds answers)
      → HoldsAcked f (λ m. Contains list m) ds answers held
  pub making : LeavesOnly Leaves (IsNothingOrFresh text) → IsNothing held
  pub rebuilding : (list : List Message) (recorded : List ℕ)
      → LeavesOnly Leaves (λ left. IsDeskOf recorded (λ m. Contains list m) left
      ⊎ IsDeskOf text (λ m. Contains list m) left) → SameSet (λ m. Contains list m) held

-- a crash leaves a whole desk with this roster text and some messages, and nothing else
abbrev pub LeavesSomeDesk : (Leaves : Left → Type 0) → (text : List ℕ) → Type 0
LeavesSomeDesk Leaves text = (list : List Message)
    × LeavesOnly Leaves (IsDeskOf text (λ m. Contains list m))
