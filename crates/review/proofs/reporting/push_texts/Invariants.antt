use Rattle.std.proofs.Common.{◌≡◌, ◌++◌, map, string_bytes, take}
use Rattle.review.specs.Columns.{lines_text}
use Rattle.review.proofs.reporting.push_texts.Given as goal

abbrev pub invariant-loop-text : goal.invariant-loop-text
invariant-loop-text l = string_bytes l.out ≡ string_bytes l.fn.out ++ lines_text (map string_bytes (take l.text-index l.texts))
