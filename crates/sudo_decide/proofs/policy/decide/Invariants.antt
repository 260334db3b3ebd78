use Rattle.std.proofs.Common.{reverse, take}
use Rattle.sudo_decide.specs.Decision.{DecidesBy}
use Rattle.sudo_decide.proofs.policy.decide.Given as goal

abbrev pub invariant-loop-entry : goal.invariant-loop-entry
invariant-loop-entry l = DecidesBy (reverse l.p) (take l.entry-index l.entry-items) l.i l.decision
