use Rattle.std.proofs.Common.{◌≡◌, ◌++◌, string_bytes, take}
use Rattle.std.specs.List.{flat_map}
use Rattle.review.specs.Columns.{lines_text}
use Rattle.review.specs.Report.{broad_for}
use Rattle.review.proofs.broad.push_broad_lines.Given as goal

abbrev pub invariant-loop-cmnd : goal.invariant-loop-cmnd
invariant-loop-cmnd l = string_bytes l.out ≡ string_bytes l.fn.out ++ lines_text (flat_map (broad_for l.request) (take l.cmnd-index l.cmnd-items))
