use Rattle.std.proofs.Common.{◌≡◌, ◌++◌, take}
use Rattle.sudo_beyond.specs.Standing.{commands}
use Rattle.sudo_beyond.proofs.commands.push_commands.Given as goal

abbrev pub invariant-loop-entry : goal.invariant-loop-entry
invariant-loop-entry l = l.cmnds.items ≡ l.fn.cmnds.items ++ commands (take l.entry-index l.entry-items)
