use Rattle.std.proofs.Common.{◌≡◌, ◌++◌, take}
use Rattle.sudo_beyond.specs.Standing.{cmnds_in}
use Rattle.sudo_beyond.proofs.commands.push_cmnds.Given as goal

abbrev pub invariant-loop-x : goal.invariant-loop-x
invariant-loop-x l = l.cmnds.items ≡ l.fn.cmnds.items ++ cmnds_in (take l.x-index l.list)
