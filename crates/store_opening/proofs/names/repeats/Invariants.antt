use Rattle.std.proofs.Common.{◌≡◌, ◌-◌, ◌≤◌, drop}
use Rattle.store_opening.specs.private.Names.{repeats}
use Rattle.store_opening.proofs.names.repeats.Given as goal

abbrev pub invariant-loop-i : goal.invariant-loop-i
invariant-loop-i l = (1 ≤ l.i) × (repeats (drop (l.i - 1) l.names) ≡ repeats l.names)
