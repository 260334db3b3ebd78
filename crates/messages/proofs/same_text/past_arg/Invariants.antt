use Rattle.std.proofs.Common.{take}
use Rattle.sudo_words.specs.Command.{arg_text}
use Rattle.messages.specs.Wire.{escaped}
use Rattle.messages.specs.private.Past.{IsPast}
use Rattle.messages.proofs.same_text.past_arg.Given as goal

-- what is left is what comes after the bytes so far
abbrev pub invariant-loop-byte : goal.invariant-loop-byte
invariant-loop-byte l = IsPast (escaped (arg_text (take l.byte-index l.arg))) l.rest l.left
