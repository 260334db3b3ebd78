use Rattle.std.proofs.Common.{◌≡◌, ◌++◌, map}
use Rattle.grants.specs.Marks.{verdict_of}
use Rattle.grants.proofs.marks.push_verdicts.Given as goal

abbrev pub invariant-loop-mark : goal.invariant-loop-mark
invariant-loop-mark l =
    l.list.items ++ map (verdict_of l.request l.kind) l.mark-iterator ≡ l.fn.list.items ++ map (verdict_of l.request l.kind) l.marks.keys
