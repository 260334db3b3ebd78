-- A desk that is opened or rebuilt over the files' bytes: what it holds, and why there is none.
use Rattle.std.proofs.Common.{ℕ, List, inl, inr}
use Rattle.messages.specs.declared.message.Message.{Message}
use Rattle.desk_store.specs.Sets.{SameSet}
use Rattle.desk.specs.Opening.{Opens}
use Rattle.desk.specs.Rebuilding.{Rebuilds}
use Rattle.desk.specs.declared.refusal.Refusal.TheVariants as desk
use Rattle.desk_commands.specs.Kept.{held_in}

-- ---- what is held

pub opened : (Empty Desk Old : Type 0) (recorded text : List ℕ) (old new : Message → Type 0) → Opens Empty Desk Old recorded text old new
    → SameSet (held_in Desk Old old) new
opened Empty Desk Old recorded text old new opens = elim opens [
  | inl nothing ↦ λ m. (λ h. elim h.0 [ inl desk ↦ absurd (nothing.1 desk) | inr other ↦ absurd (nothing.2 other) ], λ n. absurd (nothing.3 m n))
  | inr desk ↦ λ m. (λ h. (desk.4 m).0 h.1, λ n. (inl desk.0, (desk.4 m).1 n))
]

pub rebuilt : (Empty Desk Old : Type 0) (old new : Message → Type 0) → Rebuilds Empty Desk Old old new → SameSet (held_in Desk Old old) new
rebuilt Empty Desk Old old new rebuilds = elim rebuilds [
  | inl nothing ↦ λ m. (λ h. elim h.0 [ inl desk ↦ absurd (nothing.1 desk) | inr other ↦ absurd (nothing.2 other) ], λ n. absurd (nothing.3 m n))
  | inr desk ↦ λ m. (λ h. (desk.2 m).0 h.1, λ n. (desk.0, (desk.2 m).1 n))
]
