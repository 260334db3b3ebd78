use Rattle.std.proofs.Common.{take}
use Rattle.messages.specs.Wire.{escaped}
use Rattle.messages.specs.private.Past.{IsPast}
use Rattle.messages.proofs.same_text.past_escaped.Given as goal

-- what is left is what comes after the bytes so far
abbrev pub invariant-loop-byte : goal.invariant-loop-byte
invariant-loop-byte l = IsPast (escaped (take l.byte-index l.text)) l.rest l.left
