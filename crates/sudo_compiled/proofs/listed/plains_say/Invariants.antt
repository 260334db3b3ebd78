use Rattle.std.proofs.Common.{◌≡◌, length}
use Rattle.sudo_compiled.specs.Compiled.{plains_say}
use Rattle.sudo_compiled.proofs.listed.plains_say.Given as goal

-- what is behind the rest is silent
abbrev pub invariant-loop-last : goal.invariant-loop-last
invariant-loop-last l = plains_say l.asked l.rest ≡ plains_say l.asked l.list

abbrev pub decreases-loop-last : goal.decreases-loop-last
decreases-loop-last l = length l.rest
