use Rattle.std.proofs.Common.{◌≡◌, ◌++◌, take}
use Rattle.sudo_beyond.specs.Standing.{names_in}
use Rattle.sudo_beyond.proofs.standing.push_names.Given as goal

abbrev pub invariant-loop-x : goal.invariant-loop-x
invariant-loop-x g l = l.names.items ≡ l.fn.names.items ++ names_in (take l.x-index l.list)
