-- A whole desk that is left is also any other with the same roster text and the same messages.
use Rattle.std.proofs.Common.{◌≡◌, ◌∙◌, ℕ, List}
use Rattle.messages.specs.declared.message.Message.{Message}
use Rattle.store_tables.specs.Sets.{SameSet}
use Rattle.desk_store.specs.Left.{Left, Nothing, ADesk, AnOldDesk, NoDesk, IsDeskOf, IsOldDeskOf}

pub same_left : (r s : List ℕ) (S T : Message → Type 0) (left : Left) → s ≡ r → SameSet S T → IsDeskOf s T left → IsDeskOf r S left
same_left r s S T Nothing roster set is = is
same_left r s S T (ADesk c) roster set is = (is.0 ∙ roster, λ m. (λ h. (is.1 m).0 ((set m).0 h), λ h. (set m).1 ((is.1 m).1 h)))
same_left r s S T (AnOldDesk c) roster set is = is
same_left r s S T NoDesk roster set is = is

pub same_old_left : (r s : List ℕ) (S T : Message → Type 0) (left : Left) → s ≡ r → SameSet S T → IsOldDeskOf s T left → IsOldDeskOf r S left
same_old_left r s S T Nothing roster set is = is
same_old_left r s S T (ADesk c) roster set is = is
same_old_left r s S T (AnOldDesk c) roster set is = (is.0 ∙ roster, λ m. (λ h. (is.1 m).0 ((set m).0 h), λ h. (set m).1 ((is.1 m).1 h)))
same_old_left r s S T NoDesk roster set is = is
