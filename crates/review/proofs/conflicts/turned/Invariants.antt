use Rattle.std.proofs.Common.{◌≡◌, map, take}
use Rattle.review.specs.Report.{lesser_first}
use Rattle.review.proofs.conflicts.turned.Given as goal

abbrev pub invariant-loop-one : goal.invariant-loop-one
invariant-loop-one l = l.pairs.items ≡ map lesser_first (take l.one-index l.conflicts)
