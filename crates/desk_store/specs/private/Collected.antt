-- Messages in a list, each once, beside their texts.
use Rattle.std.specs.Prelude.{◌≡◌, ◌≢◌, ◌⊎◌, ℕ, Bool, true, List, [], ◌∷◌}
use Rattle.std.specs.Prelude.{◌++◌, AllPairs, Contains, String, string_bytes}
use Rattle.std.specs.List.{list_any}
use Rattle.std.specs.Str.{bytes_eq}
use Rattle.std.specs.declared.alloc.Global.{Global}
use Rattle.messages.specs.Wire.{wire, IsMessage}
use Rattle.messages.specs.declared.message.Message.{Message}

-- A message that is in the list changes nothing; any other one is put after those of the list.
abbrev pub IsPut : (old : List Message) → Message → (new : List Message) → Type 0
IsPut old m new = (Contains old m × (new ≡ old)) ⊎ ((¬ Contains old m) × (new ≡ old ++ m ∷ []))

-- one of the texts has these bytes
abbrev pub has_text : List (String Global) → List ℕ → Bool
has_text texts bytes = list_any (λ t. bytes_eq bytes (string_bytes t)) texts

-- Each member of the list is a valid message, no message comes twice, and a message is in the list
-- exactly where its text is among the texts.
pub record IsKept (messages : List Message) (texts : List (String Global)) : Type 0 where
  pub only : (m : Message) → Contains messages m → IsMessage m
  pub once : AllPairs (λ m n. m ≢ n) messages
  pub known : (m : Message) → IsMessage m → Contains messages m → has_text texts (wire m) ≡ true
  pub found : (m : Message) → IsMessage m → has_text texts (wire m) ≡ true → Contains messages m
