use Rattle.std.proofs.Common.{◌≡◌, ◌++◌, map}
use Rattle.grants.specs.private.Noting.{shown}
use Rattle.grants.proofs.marks.shown.Given as goal

abbrev pub invariant-loop-mark : goal.invariant-loop-mark
invariant-loop-mark l = l.list.items ++ map shown l.mark-iterator ≡ map shown l.marks.keys
