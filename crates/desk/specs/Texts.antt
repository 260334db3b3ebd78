-- The texts of a set's messages.
use Rattle.std.specs.Prelude.{◌≡◌, ℕ, List, Contains}
use Rattle.messages.specs.Order.{AreInOrder, TextPrecedes}
use Rattle.messages.specs.Wire.{wire}
use Rattle.messages.specs.declared.message.Message.{Message}

-- the text of each message of the set, each once, in byte order
pub record AreTexts (messages : List Message) (texts : List (List ℕ)) : Type 0 where
  pub in_order : AreInOrder TextPrecedes texts
  pub each : (text : List ℕ) → Contains texts text
      → (m : Message) × Contains messages m × (text ≡ wire m)
  pub all : (m : Message) → Contains messages m → Contains texts (wire m)
