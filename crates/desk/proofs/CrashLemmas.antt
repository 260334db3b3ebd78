-- What a crash leaves of a desk.
use Rattle.std.proofs.Common.{◌≡◌, ◌⊎◌, inl, inr, ℕ, List, refl}
use Rattle.messages.specs.declared.message.Message.{Message}
use Rattle.store_tables.specs.Sets.{SameSet}
use Rattle.desk_store.specs.Left.{Left, IsAsKept, IsDeskOf, IsNothingOrFresh, IsOldDeskOf, IsReplacedOrNot, LeavesOnly}
use Rattle.desk_store.proofs.SameLeft.{same_left, same_old_left}
use Rattle.desk.specs.Crash.{IsLeftByOpening, IsLeftByRebuilding, IsLeftByTaking}

-- ---- opening

module _ (Empty Desk Old : Type 0) (recorded text : List ℕ) (S : Message → Type 0) (left : Left) where
  -- what was kept as it was
  pub kept_by_opening : IsAsKept Empty Desk Old recorded S left → IsLeftByOpening Empty Desk Old recorded text S left
  kept_by_opening kept = record { empty = λ none. inl (kept.empty none); desk = kept.desk; old = kept.old }

  -- what the making of a desk may leave, where there was none
  pub made_by_opening : (¬ Desk) → (¬ Old) → IsNothingOrFresh text left → IsLeftByOpening Empty Desk Old recorded text S left
  made_by_opening none none_old made = record { empty = λ _. made; desk = λ desk. absurd (none desk); old = λ old. absurd (none_old old) }

  -- ---- rebuilding

  -- what was kept as it was
  pub kept_by_rebuilding : IsAsKept Empty Desk Old recorded S left → IsLeftByRebuilding Empty Desk Old recorded text S left
  kept_by_rebuilding kept = record { empty = λ none. inl (kept.empty none); desk = λ desk. inl (kept.desk desk); old = λ old. inl (kept.old old) }

  -- what the making of a desk may leave, where there was none
  pub made_by_rebuilding : (¬ Desk) → (¬ Old) → IsNothingOrFresh text left → IsLeftByRebuilding Empty Desk Old recorded text S left
  made_by_rebuilding none none_old made = record { empty = λ _. made; desk = λ desk. absurd (none desk); old = λ old. absurd (none_old old) }

-- what the replacing of the roster's text may leave of a keeper that keeps what another did
pub replaced_by_rebuilding : (Empty Desk Old Desk' Old' : Type 0) (recorded recorded' text : List ℕ) (S T : Message → Type 0) (left : Left) → (¬ Empty)
    → (Desk → Desk' × (recorded' ≡ recorded) × SameSet S T) → (Old → Old' × SameSet S T × (recorded' ≡ recorded))
    → IsReplacedOrNot Desk' Old' recorded' text T left → IsLeftByRebuilding Empty Desk Old recorded text S left
replaced_by_rebuilding Empty Desk Old Desk' Old' recorded recorded' text S T left none desk old may = record {
  empty = λ is. absurd (none is);
  desk = λ is. let kept = desk is in elim (may.desk kept.0) as (λ _. IsDeskOf recorded S left ⊎ IsDeskOf text S left) [
    | inl before ↦ inl (same_left recorded recorded' S T left kept.1 kept.2 before)
    | inr new ↦ inr (same_left text text S T left refl kept.2 new)
  ];
  old = λ is. let kept = old is in elim (may.old kept.0) as (λ _. IsOldDeskOf recorded S left ⊎ IsDeskOf text S left) [
    | inl before ↦ inl (same_old_left recorded recorded' S T left kept.2 kept.1 before)
    | inr new ↦ inr (same_left text text S T left refl kept.1 new)
  ];
}

-- ---- the desk, under another name of its roster's text and of its messages

pub leaves_same : (MayLeave : Left → Type 0) (r s : List ℕ) (S T : Message → Type 0) → s ≡ r
    → SameSet S T → LeavesOnly MayLeave (IsDeskOf s T) → LeavesOnly MayLeave (IsDeskOf r S)
leaves_same MayLeave r s S T roster set leaves left may = same_left r s S T left roster set (leaves left may)

pub of_roster : (MayLeave : Left → Type 0) (r s : List ℕ) (S : Message → Type 0)
    → s ≡ r → LeavesOnly MayLeave (IsDeskOf s S) → LeavesOnly MayLeave (IsDeskOf r S)
of_roster MayLeave r s S roster = leaves_same MayLeave r s S S roster (λ m. (λ h. h, λ h. h))

-- the desk as it was, or with the other roster's text, each under another name
pub taken_or_not : (a a' b b' : List ℕ) (S : Message → Type 0) (left : Left) → a ≡ a' → b ≡ b' → IsDeskOf a S left ⊎ IsDeskOf b S left
    → IsLeftByTaking a' b' S left
taken_or_not a a' b b' S left first second (inl was) = inl (same_left a' a S S left first (λ m. (λ h. h, λ h. h)) was)
taken_or_not a a' b b' S left first second (inr new) = inr (same_left b' b S S left second (λ m. (λ h. h, λ h. h)) new)
