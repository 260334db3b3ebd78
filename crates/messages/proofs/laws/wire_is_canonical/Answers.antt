use Rattle.messages.specs.private.Members.{value_of}
use Rattle.messages.proofs.Readings.{text_of_message}
use Rattle.messages.proofs.laws.wire_is_canonical.Goals as goal

pub returns : goal.returns
returns c = λ m h. (value_of m, text_of_message m h)
