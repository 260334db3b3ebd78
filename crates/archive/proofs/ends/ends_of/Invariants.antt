use Rattle.std.proofs.Common.{take}
use Rattle.archive.specs.private.Ends.{AreEnds}
use Rattle.archive.proofs.ends.ends_of.Given as goal

abbrev pub invariant-loop-message : goal.invariant-loop-message
invariant-loop-message l = AreEnds (take l.message-index l.messages) l.ends
