use Rattle.std.proofs.Common.{◌≡◌, ◌++◌, string_bytes, take}
use Rattle.std.specs.List.{flat_map}
use Rattle.review.specs.Columns.{lines_text}
use Rattle.review.specs.Report.{conflict_for}
use Rattle.review.proofs.conflicts.push_conflicts.Given as goal

abbrev pub invariant-loop-pair : goal.invariant-loop-pair
invariant-loop-pair l =
    string_bytes l.out ≡ string_bytes l.fn.out ++ lines_text (flat_map (conflict_for l.roster.says l.at l.person) (take l.pair-index l.pairs))
