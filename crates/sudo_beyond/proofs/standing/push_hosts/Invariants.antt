use Rattle.std.proofs.Common.{◌≡◌, ◌++◌, take}
use Rattle.sudo_beyond.specs.Standing.{hosts}
use Rattle.sudo_beyond.proofs.standing.push_hosts.Given as goal

abbrev pub invariant-loop-entry : goal.invariant-loop-entry
invariant-loop-entry l = l.names.items ≡ l.fn.names.items ++ hosts (take l.entry-index l.entry-items)
