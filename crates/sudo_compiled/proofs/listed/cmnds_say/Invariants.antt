use Rattle.std.proofs.Common.{◌≡◌, length}
use Rattle.sudo_compiled.specs.Compiled.{cmnds_say}
use Rattle.sudo_compiled.proofs.listed.cmnds_say.Given as goal

-- what is behind the rest is silent
abbrev pub invariant-loop-last : goal.invariant-loop-last
invariant-loop-last l = cmnds_say l.path l.args l.rest ≡ cmnds_say l.path l.args l.list

abbrev pub decreases-loop-last : goal.decreases-loop-last
decreases-loop-last l = length l.rest
