-- What a crash leaves of a keeper in memory.
use Rattle.std.proofs.Common.{◌≡◌, ◌⊎◌, inl, inr, ℕ, List, [], Result, Ok, Err, refl, subst}
use Rattle.std.specs.Prelude.{⊤, IsSome, OnErr, OnOk, Option, Some, unwrap_or}
use Rattle.messages.specs.Wire.{IsMessage}
use Rattle.messages.specs.declared.message.Message.{Message}
use Rattle.store_tables.specs.Sets.{With}
use Rattle.desk_store.specs.private.Collected.{IsPut}
use Rattle.desk_store.specs.Memory.{MemoryHolds, MemoryContent}
use Rattle.desk_store.specs.Left.{Left, Nothing, ADesk, AnOldDesk, NoDesk, IsCommitted, IsDeskOf, IsReplacedOrNot, IsWithOrWithout, LeavesOnly}
use Rattle.desk_store.specs.Crash.{LeavesContent}
use Rattle.desk_store.proofs.MemoryLemmas.{put_adds}
use Rattle.desk_store.proofs.SameLeft.{same_left}

pub content_left : (k : MemoryContent) (left : Left) → IsSome k.roster → LeavesContent k left → IsDeskOf (unwrap_or k.roster []) (MemoryHolds k) left
content_left k Nothing some none = let wrong = subst IsSome none some in absurd cc
content_left k (ADesk c) some is = is.1
content_left k (AnOldDesk c) some none = absurd none
content_left k NoDesk some none = absurd none

abbrev kept : Option (List ℕ) → List Message → MemoryContent
kept r messages = record { roster = r; messages = messages }

module _ {A E : Type 0} (r : Option (List ℕ)) (old : List Message) (m : Message) (new : List Message) (is : IsMessage m) (some : IsSome r) where
  -- if the message was added to the others
  pub put_lasts : (result : Result A E) → OnOk result (IsPut old m new)
      → OnOk result (LeavesOnly (LeavesContent (kept r new)) (IsDeskOf (unwrap_or r []) (With (MemoryHolds (kept r old)) m)))
  put_lasts (Ok a) put = λ left may. same_left (unwrap_or r []) (unwrap_or r []) (With (MemoryHolds (kept r old)) m)
      (MemoryHolds (kept r new)) left refl (put_adds r old m new is put) (content_left (kept r new) left some may)
  put_lasts (Err e) put = tt

  -- and if it may not have been
  pub put_leaves : (result : Result A E) → OnOk result (IsPut old m new) → OnErr result (new ≡ old) → (left : Left)
      → LeavesContent (kept r new) left → IsWithOrWithout (unwrap_or r []) (MemoryHolds (kept r old)) m left
  put_leaves (Ok a) put same left may = inr (put_lasts (Ok a) put left may)
  put_leaves (Err e) put same left may =
      inl (let P : List Message → Type 0 = λ l. LeavesContent (kept r l) left in content_left (kept r old) left some (subst P same may))

  -- the message is all that may be left besides
  pub put_adds_only : (result : Result A E) → OnOk result (IsPut old m new) → OnErr result (new ≡ old) → (left : Left) → LeavesContent (kept r new) left
      → LeavesContent (kept r old) left ⊎ IsCommitted ⊤ (unwrap_or r []) (With (MemoryHolds (kept r old)) m) left
  put_adds_only (Ok a) put same left may = inr (tt, put_lasts (Ok a) put left may)
  put_adds_only (Err e) put same left may = inl (let P : List Message → Type 0 = λ l. LeavesContent (kept r l) left in subst P same may)

-- if the roster's text was replaced
pub replaced_lasts : (r : Option (List ℕ)) (text : List ℕ) (messages : List Message)
    → LeavesOnly (LeavesContent (kept (Some text) messages)) (IsDeskOf text (MemoryHolds (kept r messages)))
replaced_lasts r text messages left may = content_left (kept (Some text) messages) left refl may

pub replaced_leaves : (r : Option (List ℕ)) (text : List ℕ) (messages : List Message) (left : Left) → LeavesContent (kept (Some text) messages) left
    → IsReplacedOrNot (IsSome r) ⊥ (unwrap_or r []) text (MemoryHolds (kept r messages)) left
replaced_leaves r text messages left may = record { desk = λ some. inr (replaced_lasts r text messages left may); old = λ none. absurd none }
