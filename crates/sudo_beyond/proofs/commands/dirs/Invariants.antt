use Rattle.std.proofs.Common.{◌≡◌, take}
use Rattle.sudo_beyond.specs.Cases.{dirs}
use Rattle.sudo_beyond.proofs.commands.dirs.Given as goal

abbrev pub invariant-loop-cmnd : goal.invariant-loop-cmnd
invariant-loop-cmnd l = l.dirs.items ≡ dirs (take l.cmnd-index l.cmnds)
