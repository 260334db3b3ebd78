use Rattle.std.specs.List.{AllAdjacentBelow}
use Rattle.desk_store.proofs.CountLemmas.{Precedes}
use Rattle.desk_store.proofs.counting.ascends.Given as goal

-- of the texts that were gone through each comes before the next one
abbrev pub invariant-loop-i : goal.invariant-loop-i
invariant-loop-i l = AllAdjacentBelow Precedes l.texts l.i
