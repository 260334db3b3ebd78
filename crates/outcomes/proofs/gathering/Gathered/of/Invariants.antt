use Rattle.std.proofs.Common.{take}
use Rattle.outcomes.specs.Gathered.{AreGathered}
use Rattle.outcomes.proofs.gathering.Gathered.of.Given as goal

abbrev pub invariant-loop-message : goal.invariant-loop-message
invariant-loop-message l = AreGathered (take l.message-index l.set) l.gathered
