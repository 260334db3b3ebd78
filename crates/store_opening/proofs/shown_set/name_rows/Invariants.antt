use Rattle.std.proofs.Common.{◌≡◌, List, take}
use Rattle.messages.specs.declared.name_row.NameRow.{NameRow}
use Rattle.store_opening.specs.private.Showing.{AreShown, ShowsName}
use Rattle.store_opening.proofs.shown_set.name_rows.Given as goal

abbrev pub invariant-loop-row : goal.invariant-loop-row
invariant-loop-row l = (shown : List NameRow) → AreShown ShowsName l.rows shown → l.names.items ≡ take l.row-index shown
