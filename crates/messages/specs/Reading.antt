-- What reading a message answers.
use Rattle.std.specs.Prelude.{◌≡◌, ◌<◌, ◌≤◌, ℕ, List, length}
use Rattle.std.specs.Prelude.{Result, IfOk, IfErr, IsErrOf, MatchResult}
use Rattle.messages.specs.Canonical.{IsCanonicalText}
use Rattle.messages.specs.Wire.{wire, IsMessage}
use Rattle.messages.specs.declared.message.Message.{Message}
use Rattle.messages.specs.declared.fault.MessageFault.{MessageFault}
use Rattle.messages.specs.declared.fault.MessageFault.TheVariants.{TooLong, NotCanonical}
use Rattle.messages.specs.declared.fault.MessageFault.TheVariants.{BadField, NoMemory}

-- The result is the message whose text the bytes are, or the first fault that applies.
pub record IsReading (body : List ℕ) (result : Result Message MessageFault) : Type 0 where
  -- What is read has these bytes as its text.
  pub found : IfOk result (λ m. (body ≡ wire m) × (length body ≤ 16_384) × IsMessage m)
  -- A message's text of at most 16,384 bytes is read as that message, unless memory runs out: it is
  -- refused for nothing else.
  pub only : (m : Message) → IsMessage m → body ≡ wire m → length body ≤ 16_384
      → MatchResult result (λ n. n ≡ m) (λ e. e ≡ NoMemory)
  -- More bytes than a message may have are refused as too long, and nothing else is.
  pub too_long : 16_384 < length body → IsErrOf result TooLong
  pub too_long_only : IfErr result (λ e. e ≡ TooLong → 16_384 < length body)
  -- What is refused as not canonical is short enough, and is not canonical JSON.
  pub not_canonical : IfErr result
      (λ e. e ≡ NotCanonical → (length body ≤ 16_384) × ¬ IsCanonicalText body)
  -- What is refused for a field is short enough, and is canonical JSON.
  pub bad_field : IfErr result
      (λ e. e ≡ BadField → (length body ≤ 16_384) × IsCanonicalText body)
