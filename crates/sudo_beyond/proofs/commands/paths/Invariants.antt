use Rattle.std.proofs.Common.{◌≡◌, take}
use Rattle.sudo_beyond.specs.Cases.{paths}
use Rattle.sudo_beyond.proofs.commands.paths.Given as goal

abbrev pub invariant-loop-cmnd : goal.invariant-loop-cmnd
invariant-loop-cmnd l = l.paths.items ≡ paths (take l.cmnd-index l.cmnds)
