-- What a desk holds that is opened over what a stop left.
use Rattle.std.proofs.Common.{◌≡◌, ◌⊎◌, ◌∙◌, inl, inr, ℕ, List, Result, refl, sym, subst}
use Rattle.std.specs.Prelude.{Contains}
use Rattle.sudo_words.specs.declared.cmnd.Cmnd.{Cmnd}
use Rattle.messages.specs.declared.message.Message.{Message}
use Rattle.roster.specs.Fields.{RosterFields}
use Rattle.store_tables.specs.Sets.{IsNothing, SameSet, With}
use Rattle.desk_store.specs.Left.{Left, Nothing, ADesk, AnOldDesk, NoDesk, HoldsIn, IsDeskOf, IsFoundAs, IsNothingOrFresh}
use Rattle.desk.specs.Crash.{IsAcceptable, IsLeftByDeliveries, IsLeftByDelivery}
use Rattle.desk.specs.Delivery.{AcknowledgesAmong, Delivery}
use Rattle.desk.specs.declared.ack.Ack.{Ack}
use Rattle.desk.specs.Opening.{Opens, Refuses}
use Rattle.desk.specs.Refusals.{IsWant}
use Rattle.desk.specs.declared.refusal.Refusal.{Refusal}
use Rattle.desk.specs.declared.refusal.Refusal.TheVariants.{BaseTooLarge}
use Rattle.desk.proofs.RestartLemmas.{refused_again}

both_ways : (S T U : Message → Type 0) → SameSet S U → SameSet T U → SameSet S T
both_ways S T U a b m = (λ h. (b m).1 ((a m).0 h), λ h. (a m).1 ((b m).0 h))

onward : (S T U : Message → Type 0) → SameSet S T → SameSet T U → SameSet S U
onward S T U a b m = (λ h. (b m).0 ((a m).0 h), λ h. (a m).1 ((b m).1 h))

module _ (Empty Desk Old : Type 0) (recorded : List ℕ) (held : Message → Type 0) where
  -- a whole desk was left, and is found
  found_whole : (said : List ℕ) (S : Message → Type 0) (left : Left) → IsDeskOf said S left → IsFoundAs Empty Desk Old recorded held left
      → Desk × (recorded ≡ said) × SameSet S held
  found_whole said S Nothing none is = absurd none
  found_whole said S (ADesk c) whole is = (is.0, is.3 ∙ whole.0, both_ways S held (HoldsIn c) whole.1 is.4)
  found_whole said S (AnOldDesk c) none is = absurd none
  found_whole said S NoDesk none is = absurd none

  module _ (text : List ℕ) (new : Message → Type 0) (opens : Opens Empty Desk Old recorded text held new) where
    pub held_whole : (said : List ℕ) (S : Message → Type 0) (left : Left) → IsDeskOf said S left → IsFoundAs Empty Desk Old recorded held left → SameSet S new
    held_whole said S left whole is =
        let found = found_whole said S left whole is in
        elim opens as (λ _. SameSet S new) [
          | inl none ↦ absurd (none.1 found.0)
          | inr there ↦ onward S held new found.2 there.4
        ]

    pub held_either : (said other : List ℕ) (S : Message → Type 0) (left : Left)
        → IsDeskOf said S left ⊎ IsDeskOf other S left → IsFoundAs Empty Desk Old recorded held left → SameSet S new
    held_either said other S left (inl whole) is = held_whole said S left whole is
    held_either said other S left (inr whole) is = held_whole other S left whole is

    pub held_of_delivery : (f : RosterFields Cmnd) (said : List ℕ) (S : Message → Type 0) (d : Delivery) (left : Left) → IsLeftByDelivery f said S d left
        → IsFoundAs Empty Desk Old recorded held left → SameSet S new ⊎ ((m : Message) × IsAcceptable f d m × SameSet (With S m) new)
    held_of_delivery f said S d left (inl before) is = inl (held_whole said S left before is)
    held_of_delivery f said S d left (inr after) is = inr (after.0, after.1, held_whole said (With S after.0) left after.2 is)

    pub held_of_deliveries : (f : RosterFields Cmnd) (said : List ℕ) (S : Message
        → Type 0) (ds : List Delivery) (answers : List (Result Ack Refusal)) (left : Left) → IsLeftByDeliveries f said S ds answers left
        → IsFoundAs Empty Desk Old recorded held left → SameSet (λ m. S m ⊎ AcknowledgesAmong ds answers m) new
        ⊎ ((d : Delivery) × Contains ds d × (m : Message) × IsAcceptable f d m × SameSet (With (λ n. S n ⊎ AcknowledgesAmong ds answers n) m) new)
    held_of_deliveries f said S ds answers left (inl before) is = inl (held_whole said (λ m. S m ⊎ AcknowledgesAmong ds answers m) left before is)
    held_of_deliveries f said S ds answers left (inr it) is =
        inr (it.0, it.1, it.2, it.3, held_whole said (With (λ n. S n ⊎ AcknowledgesAmong ds answers n) it.2) left it.4 is)

    pub held_nothing : (said : List ℕ) (left : Left) → IsNothingOrFresh said left → IsFoundAs Empty Desk Old recorded held left → IsNothing new
    held_nothing said left (inl nothing) is =
        let there : IsFoundAs Empty Desk Old recorded held Nothing = subst (IsFoundAs Empty Desk Old recorded held) nothing is in
        elim opens as (λ _. IsNothing new) [
          | inl none ↦ none.3
          | inr desk ↦ absurd (there.1 desk.0)
        ]
    held_nothing said left (inr fresh) is = let same = held_whole said (λ _. ⊥) left fresh is in λ m there. (same m).1 there

  -- a whole desk of the roster's text is refused for its base alone
  pub base_alone : (Fits : Type 0) (text : List ℕ) (S : Message → Type 0) (left : Left) (e : Refusal) → IsDeskOf text S left
      → IsFoundAs Empty Desk Old recorded held left → IsWant e ⊎ Refuses Fits Empty Desk Old recorded text e → IsWant e ⊎ ((e ≡ BaseTooLarge) × (¬ Fits))
  base_alone Fits text S left e whole is why =
      let found = found_whole text S left whole is in
      elim (refused_again Fits Empty Desk Old recorded text text e found.0 (sym found.1) why) as (λ _. IsWant e ⊎ ((e ≡ BaseTooLarge) × (¬ Fits))) [
        | inl want ↦ inl want
        | inr said ↦ elim said as (λ _. IsWant e ⊎ ((e ≡ BaseTooLarge) × (¬ Fits))) [
          | inl base ↦ inr base
          | inr roster ↦ absurd (roster.1 refl)
        ]
      ]
