-- What a desk holds that is opened over what a crash left, from what its opening promises.
use Rattle.std.proofs.Common.{◌≡◌, ◌⊎◌, inl, inr, ℕ, List, Result, refl}
use Rattle.std.specs.Prelude.{Contains}
use Rattle.sudo_words.specs.declared.cmnd.Cmnd.{Cmnd}
use Rattle.messages.specs.declared.message.Message.{Message}
use Rattle.roster.specs.Fields.{RosterFields}
use Rattle.sqlite.specs.Effect.{Database}
use Rattle.store_tables.specs.Kept.{HoldsText}
use Rattle.store_tables.specs.Sets.{SameSet, With}
use Rattle.store_tables.specs.Stored.{content_of}
use Rattle.store_schema.specs.Shapes.{IsVacant}
use Rattle.store_opening.specs.Opened.{IsKept, IsOldDesk}
use Rattle.desk_store.specs.Crash.{IsFound}
use Rattle.desk_store.specs.Left.{Left, Nothing, ADesk, AnOldDesk, NoDesk, IsDeskOf, LeavesOnly}
use Rattle.desk_store.proofs.FoundLemmas.{found_as}
use Rattle.desk.specs.Crash.{IsLeftByDeliveries}
use Rattle.desk.specs.Delivery.{AcknowledgesAmong, Delivery}
use Rattle.desk.specs.Opening.{Opens, Refuses}
use Rattle.desk.specs.Refusals.{IsWant}
use Rattle.desk.specs.declared.ack.Ack.{Ack}
use Rattle.desk.specs.declared.refusal.Refusal.{Refusal}
use Rattle.desk.specs.declared.refusal.Refusal.TheVariants.{UnknownRelay, UnknownHost, TooLong, NotCanonical, BadField, Denied, TooManyRules}
use Rattle.desk.specs.declared.refusal.Refusal.TheVariants.{RosterChanged, NotADesk, OldSchema, Storage, NoMemory, BaseTooLarge}
use Rattle.desk.proofs.StopLemmas.{held_either, held_nothing, held_of_deliveries, held_of_delivery, held_whole}
use Rattle.store_restart.specs.Reopened.{HoldsLeft, LeavesSomeDesk}

-- ---- the same set of messages

desk_of_same : (text : List ℕ) (S T : Message → Type 0) → SameSet S T → (left : Left) → IsDeskOf text S left → IsDeskOf text T left
desk_of_same text S T same Nothing is = is
desk_of_same text S T same (ADesk c) is = (is.0, λ m. (λ h. (is.1 m).0 ((same m).1 h), λ h. (same m).0 ((is.1 m).1 h)))
desk_of_same text S T same (AnOldDesk c) is = is
desk_of_same text S T same NoDesk is = is

or_same : (S T A : Message → Type 0) → SameSet S T → SameSet (λ m. S m ⊎ A m) (λ m. T m ⊎ A m)
or_same S T A same m = (
  λ h. elim h as (λ _. T m ⊎ A m) [ inl x ↦ inl ((same m).0 x) | inr y ↦ inr y ],
  λ h. elim h as (λ _. S m ⊎ A m) [ inl x ↦ inl ((same m).1 x) | inr y ↦ inr y ],
)

pub left_of_same : (f : RosterFields Cmnd) (text : List ℕ) (S T : Message → Type 0) → SameSet S T → (ds : List Delivery) (answers : List (Result Ack Refusal))
    → (left : Left) → IsLeftByDeliveries f text S ds answers left → IsLeftByDeliveries f text T ds answers left
left_of_same f text S T same ds answers left (inl whole) =
    let acked : Message → Type 0 = λ m. AcknowledgesAmong ds answers m in
    inl (desk_of_same text (λ m. S m ⊎ acked m) (λ m. T m ⊎ acked m) (or_same S T acked same) left whole)
left_of_same f text S T same ds answers left (inr it) =
    let acked : Message → Type 0 = λ m. AcknowledgesAmong ds answers m in
    let old : Message → Type 0 = λ m. S m ⊎ acked m in
    let new : Message → Type 0 = λ m. T m ⊎ acked m in
    inr (it.0, it.1, it.2, it.3, desk_of_same text (With old it.2) (With new it.2) (or_same old new (λ n. n ≡ it.2) (or_same S T acked same)) left it.4)

-- ---- a database that shows what was left

module _ (Leaves : Left → Type 0) (db : Database) (leaves : LeavesOnly (IsFound db) Leaves) (text : List ℕ) where
  module _ (held : Message → Type 0)
      (opens : Opens (IsVacant db.schema) (IsKept db) (IsOldDesk db) (content_of db).roster text (HoldsText db) held) where
    -- what a look at the database finds
    found : (left : Left) × IsFound db left
    found = elim opens as (λ _. (left : Left) × IsFound db left) [
      | inl none ↦ (Nothing, none.0)
      | inr desk ↦ (ADesk (content_of db), (desk.0, refl))
    ]

    pub holds_left : HoldsLeft Leaves text held
    holds_left =
        let left = found.0 in
        let may = leaves left found.1 in
        let is = found_as db left found.1 in
        let Empty = IsVacant db.schema in
        let Desk = IsKept db in
        let Old = IsOldDesk db in
        let recorded = (content_of db).roster in
        let old = HoldsText db in
        record {
          whole = λ list only. held_whole Empty Desk Old recorded old text held opens text (λ m. Contains list m) left (only left may) is;
          delivery = λ f list d only. held_of_delivery Empty Desk Old recorded old text held opens f text (λ m. Contains list m) d left (only left may) is;
          deliveries = λ f list ds answers only.
              held_of_deliveries Empty Desk Old recorded old text held opens f text (λ m. Contains list m) ds answers left (only left may) is;
          making = λ only. held_nothing Empty Desk Old recorded old text held opens text left (only left may) is;
          rebuilding = λ list said only. held_either Empty Desk Old recorded old text held opens said text (λ m. Contains list m) left (only left may) is;
        }

  -- a whole desk of the roster's text is refused for its base alone
  pub base_left : (Fits : Type 0) (e : Refusal) → LeavesSomeDesk Leaves text
      → IsWant e ⊎ Refuses Fits (IsVacant db.schema) (IsKept db) (IsOldDesk db) (content_of db).roster text e
      → IsWant e ⊎ ((e ≡ BaseTooLarge) × (¬ Fits))
  base_left Fits e some (inl want) = inl want
  base_left Fits BaseTooLarge some (inr large) = inr (refl, large)
  base_left Fits NotADesk some (inr why) = absurd (some.1 NoDesk (leaves NoDesk (why.1, why.2, why.3)))
  base_left Fits OldSchema some (inr why) = absurd (some.1 (AnOldDesk (content_of db)) (leaves _ (why.1, refl)))
  base_left Fits RosterChanged some (inr why) = absurd (why.2 (some.1 (ADesk (content_of db)) (leaves _ (why.1, refl))).0)
  base_left Fits UnknownRelay some (inr none) = absurd none
  base_left Fits UnknownHost some (inr none) = absurd none
  base_left Fits TooLong some (inr none) = absurd none
  base_left Fits NotCanonical some (inr none) = absurd none
  base_left Fits BadField some (inr none) = absurd none
  base_left Fits (Denied denial) some (inr none) = absurd none
  base_left Fits TooManyRules some (inr none) = absurd none
  base_left Fits Storage some (inr none) = absurd none
  base_left Fits NoMemory some (inr none) = absurd none
