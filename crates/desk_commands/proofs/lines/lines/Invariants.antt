use Rattle.std.proofs.Common.{drop, map}
use Rattle.desk.specs.Delivery.{delivery_of}
use Rattle.desk_commands.proofs.LineLemmas.{AreSplit}
use Rattle.desk_commands.proofs.lines.lines.Given as goal

abbrev pub invariant-loop-byte : goal.invariant-loop-byte
invariant-loop-byte l =
    AreSplit (λ line. record { relay = l.relay; body = line }) l.bytes (map delivery_of l.lines.items) l.line.items (drop l.byte-index l.bytes)
