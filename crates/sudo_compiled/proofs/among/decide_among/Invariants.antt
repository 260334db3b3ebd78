use Rattle.std.proofs.Common.{◌≡◌, length}
use Rattle.sudo_compiled.specs.Compiled.{answer}
use Rattle.sudo_compiled.proofs.among.decide_among.Given as goal

-- what is behind the rest is silent
abbrev pub invariant-loop-last : goal.invariant-loop-last
invariant-loop-last l = answer l.rest l.i ≡ answer l.rules l.i

abbrev pub decreases-loop-last : goal.decreases-loop-last
decreases-loop-last l = length l.rest
