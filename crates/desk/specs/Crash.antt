-- What a crash leaves of a desk, as the next opening finds it.
use Rattle.std.specs.Prelude.{◌≡◌, ◌⊎◌, ℕ, List, true, Contains, Result}
use Rattle.sudo_words.specs.declared.cmnd.Cmnd.{Cmnd}
use Rattle.messages.specs.declared.message.Message.{Message}
use Rattle.roster.specs.Fields.{RosterFields}
use Rattle.roster.specs.Rules.{is_among}
use Rattle.grants.specs.Admission.{Admits}
use Rattle.store_tables.specs.Sets.{With}
use Rattle.desk_store.specs.Left.{Left, IsCommitted, IsDeskOf, IsNothingOrFresh, IsOldDeskOf}
use Rattle.desk.specs.Delivery.{AcknowledgesAmong, Delivery, IsBodyOf}
use Rattle.desk.specs.declared.ack.Ack.{Ack}
use Rattle.desk.specs.declared.refusal.Refusal.{Refusal}

-- While a desk is opened: where there was no part of a desk, there still is none, or there is a
-- whole desk of the roster's text, with no message; and where there was a desk, of either form, it
-- is there whole.
pub record IsLeftByOpening (Empty Desk Old : Type 0) (recorded text : List ℕ)
    (S : Message → Type 0) (left : Left) : Type 0 where
  pub empty : Empty → IsNothingOrFresh text left
  pub desk : Desk → IsDeskOf recorded S left
  pub old : Old → IsOldDeskOf recorded S left

-- While a desk is rebuilt: where there was no part of a desk, there still is none, or there is a
-- whole desk of the roster's text, with no message; and where there was a desk, of either form, it
-- is there whole as it was, or whole with the new roster's text and the messages that it had.
pub record IsLeftByRebuilding (Empty Desk Old : Type 0)
    (recorded text : List ℕ) (S : Message → Type 0) (left : Left) : Type 0 where
  pub empty : Empty → IsNothingOrFresh text left
  pub desk : Desk → IsDeskOf recorded S left ⊎ IsDeskOf text S left
  pub old : Old → IsOldDeskOf recorded S left ⊎ IsDeskOf text S left

-- While an open desk takes another roster: the whole desk as it was, or whole with the new roster's
-- text and the messages that it had.
abbrev pub IsLeftByTaking : (recorded text : List ℕ) → (S : Message → Type 0) → Left → Type 0
IsLeftByTaking recorded text S left = IsDeskOf recorded S left ⊎ IsDeskOf text S left

-- An opening commits only the making of a desk, by a keeper that was up and kept no part of a desk:
-- a whole desk of the roster's text, with no message.
abbrev pub IsMadeByOpening : (Up Empty : Type 0) → (text : List ℕ) → Left → Type 0
IsMadeByOpening Up Empty text = IsCommitted (Up × Empty) text (λ _. ⊥)

-- A rebuilding commits only a whole desk of the roster's text, by a keeper that was up: with no
-- message where there was no part of a desk, and else with the messages that the desk had.
abbrev pub IsAddedByRebuilding : (Up Empty : Type 0) → (text : List ℕ)
    → (S : Message → Type 0) → Left → Type 0
IsAddedByRebuilding Up Empty text S left =
    IsCommitted (Up × Empty) text (λ _. ⊥) left ⊎ IsCommitted Up text S left

-- A relay of the roster brings the message, and the roster admits it.
pub record IsAcceptable (f : RosterFields Cmnd) (d : Delivery) (m : Message) : Type 0 where
  pub relay : is_among f.relays d.relay ≡ true
  pub body : IsBodyOf d.body m
  pub admitted : Admits f m

-- While a message is delivered: the whole desk without it, or the whole desk with it, and that only
-- where the message is to be acknowledged.
abbrev pub IsLeftByDelivery : RosterFields Cmnd → (roster : List ℕ)
    → (old : Message → Type 0) → Delivery → Left → Type 0
IsLeftByDelivery f roster old d left = IsDeskOf roster old left
    ⊎ ((m : Message) × IsAcceptable f d m × IsDeskOf roster (With old m) left)

-- A delivery commits only the message that is to be acknowledged, by a keeper that was up.
abbrev pub IsAddedByDelivery : (Up : Type 0) → RosterFields Cmnd → (roster : List ℕ)
    → (old : Message → Type 0) → Delivery → Left → Type 0
IsAddedByDelivery Up f roster old d left =
    (m : Message) × IsAcceptable f d m × IsCommitted Up roster (With old m) left

-- While messages are delivered, one after the other: the whole desk with what was held and all that
-- was acknowledged, or that with one message more, which one of the deliveries brought and which is
-- to be acknowledged.
abbrev pub IsLeftByDeliveries : RosterFields Cmnd → (roster : List ℕ) → (old : Message → Type 0)
    → List Delivery → List (Result Ack Refusal) → Left → Type 0
IsLeftByDeliveries f roster old ds answers left =
    IsDeskOf roster (λ m. old m ⊎ AcknowledgesAmong ds answers m) left
    ⊎ ((d : Delivery) × Contains ds d × (m : Message) × IsAcceptable f d m
    × IsDeskOf roster (With (λ n. old n ⊎ AcknowledgesAmong ds answers n) m) left)
