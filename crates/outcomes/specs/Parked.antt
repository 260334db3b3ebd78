-- Verdicts that wait for their request.
use Rattle.std.specs.Prelude.{◌≡◌, ℕ, List, Contains}
use Rattle.messages.specs.Fields.{VerdictFields}
use Rattle.messages.specs.Names.{NobodyAsks}
pub use Rattle.messages.specs.Names.{name_meant}
use Rattle.messages.specs.Wire.{wire}
use Rattle.messages.specs.declared.message.Message.{Message}
use Rattle.messages.specs.declared.message.Message.TheVariants.{Verdict}
use Rattle.messages.specs.Order.{AreInOrder, TextPrecedes}

-- The set has the verdict, and no request that it is about.
pub record IsParked (messages : List Message) (v : VerdictFields) : Type 0 where
  pub given : Contains messages (Verdict v)
  pub waits : NobodyAsks messages (name_meant v)

-- the texts of the parked verdicts, each once, in byte order
pub record AreParked (messages : List Message) (texts : List (List ℕ)) : Type 0 where
  pub in_order : AreInOrder TextPrecedes texts
  pub each : (text : List ℕ) → Contains texts text
      → (v : VerdictFields) × IsParked messages v × (text ≡ wire (Verdict v))
  pub all : (v : VerdictFields) → IsParked messages v → Contains texts (wire (Verdict v))
