-- What is told about a name's messages.
use Rattle.std.specs.Prelude.{◌≡◌, ◌↔◌, List, Contains}
use Rattle.messages.specs.Fields.{RequestFields, VerdictFields}
use Rattle.messages.specs.Names.{name_meant, name_of}
use Rattle.messages.specs.Order.{AreInOrder, TextPrecedes}
use Rattle.messages.specs.Wire.{request_text, verdict_text}
use Rattle.messages.specs.declared.message.Message.{Message}
use Rattle.messages.specs.declared.message.Message.TheVariants.{Request, Verdict}
use Rattle.messages.specs.declared.request_name.RequestName.{RequestName}
pub use Rattle.outcomes.specs.About.{name_in}
use Rattle.findings.specs.declared.entry.About.{About}

-- All messages about the name and no others, each once: its requests in the byte order of their
-- texts, and its verdicts likewise.
pub record TellsMessages (messages : List Message)
    (name : RequestName) (about : About) : Type 0 where
  pub requests_in_order :
      AreInOrder (λ q r. TextPrecedes (request_text q) (request_text r)) about.requests.items
  pub verdicts_in_order :
      AreInOrder (λ v w. TextPrecedes (verdict_text v) (verdict_text w)) about.verdicts.items
  pub requests : (q : RequestFields)
      → Contains about.requests.items q ↔ (Contains messages (Request q) × (name_of q ≡ name))
  pub verdicts : (v : VerdictFields)
      → Contains about.verdicts.items v ↔ (Contains messages (Verdict v) × (name_meant v ≡ name))
