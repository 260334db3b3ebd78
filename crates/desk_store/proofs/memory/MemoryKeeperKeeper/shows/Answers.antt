use Rattle.std.proofs.Common.{◌≡◌, ◌⊎◌, inl, inr, refl, subst, List, [], Contains}
use Rattle.std.specs.Prelude.{⊤, IsSome, None, option_map, string_bytes, unwrap_or}
use Rattle.messages.specs.Wire.{IsMessage}
use Rattle.messages.specs.declared.message.Message.{Message}
use Rattle.store_tables.specs.Sets.{Lists}
use Rattle.store_tables.specs.Steps.{texts_in}
use Rattle.desk_store.specs.Memory.{MemoryHolds, MemoryContent}
use Rattle.desk_store.specs.Left.{Left, Nothing, ADesk}
use Rattle.desk_store.specs.Crash.{LeavesContent}
use Rattle.desk_store.proofs.Listed.{told_by_texts}
use Rattle.desk_store.proofs.memory.MemoryKeeperKeeper.shows.Goals as goal

abbrev LeavesSome : MemoryContent → Type 0
LeavesSome k = ⊤ → (k.roster ≡ None) ⊎ (IsSome k.roster ⊎ ⊥) → (left : Left) × LeavesContent k left

abbrev IsListed : MemoryContent → Type 0
IsListed k = ⊤ → IsSome k.roster ⊎ ⊥ → (list : List Message) × Lists (MemoryHolds k) list

pub returns-clause-left : goal.returns-clause-left
returns-clause-left c =
    let roster = option_map string_bytes c.self.inside.roster in
    let messages = c.self.inside.messages in
    let only = subst (λ (l : List Message). (m : Message) → Contains l m → IsMessage m) c.as_slice-messages.ensures.value c.as_slice-messages.ensures.only in
    subst LeavesSome c.self.view_is (λ up kept. elim kept as (λ _. (left : Left) × LeavesContent (record { roster = roster; messages = messages }) left) [
      | inl none ↦ (Nothing, none)
      | inr some ↦ elim some as (λ _. (left : Left) × LeavesContent (record { roster = roster; messages = messages }) left) [
        | inl desk ↦ (ADesk (record { roster = unwrap_or roster []; texts = texts_in messages }), (desk, (refl, told_by_texts messages only)))
        | inr none ↦ absurd none
      ]
    ])

pub returns-clause-listed : goal.returns-clause-listed
returns-clause-listed c =
    let messages = c.self.inside.messages in
    let only = subst (λ (l : List Message). (m : Message) → Contains l m → IsMessage m) c.as_slice-messages.ensures.value c.as_slice-messages.ensures.only in
    subst IsListed c.self.view_is (λ up some. (messages, λ m. ((λ held. held.1), (λ there. (only m there, there)))))
