use Rattle.std.proofs.Common.{◌≡◌, map, take}
use Rattle.std.specs.Prelude.{string_bytes}
use Rattle.messages.specs.Wire.{wire}
use Rattle.desk.proofs.texts.texts_of.Given as goal

abbrev pub invariant-loop-message : goal.invariant-loop-message
invariant-loop-message l = map string_bytes l.texts.items ≡ map wire (take l.message-index l.set)
