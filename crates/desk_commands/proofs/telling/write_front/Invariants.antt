use Rattle.std.proofs.Common.{◌≤◌, length, take}
use Rattle.std.specs.Io.KnownBytes.{Appends}
use Rattle.desk_commands.proofs.telling.write_front.Given as goal

abbrev pub invariant-loop : goal.invariant-loop
invariant-loop g l = (l.done ≤ length l.bytes) × Appends (g.E.Write.contents l.fn.err) (g.E.Write.contents l.err) (take l.done l.bytes)
