use Rattle.std.proofs.Common.{◌≡◌, ◌++◌, take}
use Rattle.sudo_beyond.specs.Standing.{users}
use Rattle.sudo_beyond.proofs.standing.push_users.Given as goal

abbrev pub invariant-loop-entry : goal.invariant-loop-entry
invariant-loop-entry l = l.names.items ≡ l.fn.names.items ++ users (take l.entry-index l.entry-items)
