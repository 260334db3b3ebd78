use Rattle.std.proofs.Common.{◌≡◌, ◌++◌, List, take}
use Rattle.messages.specs.Fields.{VerdictFields}
use Rattle.store_opening.specs.private.Showing.{AreShown, ShowsParked}
use Rattle.store_opening.proofs.shown_set.push_parked.Given as goal

abbrev pub invariant-loop-row : goal.invariant-loop-row
invariant-loop-row l = (shown : List VerdictFields) → AreShown ShowsParked l.rows shown → l.verdicts.items ≡ l.fn.verdicts.items ++ take l.row-index shown
