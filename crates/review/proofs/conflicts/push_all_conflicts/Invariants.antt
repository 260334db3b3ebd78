use Rattle.std.proofs.Common.{◌≡◌, ◌++◌, string_bytes, take}
use Rattle.std.specs.List.{flat_map}
use Rattle.review.specs.Columns.{lines_text}
use Rattle.review.specs.Report.{conflicts_of}
use Rattle.review.proofs.conflicts.push_all_conflicts.Given as goal

abbrev pub invariant-loop-entry : goal.invariant-loop-entry
invariant-loop-entry l =
    string_bytes l.out ≡ string_bytes l.fn.out ++ lines_text (flat_map (conflicts_of l.roster.says l.at l.pairs.items) (take l.entry-index l.entry-items))
