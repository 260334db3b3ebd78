use Rattle.std.proofs.Common.{List, [], take}
use Rattle.std.specs.List.{Contains}
use Rattle.messages.specs.NameRows.{ShowSet}
use Rattle.messages.specs.declared.message.Message.{Message}
use Rattle.outcomes.specs.private.ByName.{AreAlone, GathersRows}
use Rattle.outcomes.specs.private.Index.{AreListed}
use Rattle.outcomes.proofs.gathering.summaries_of.Given as goal

abbrev pub invariant-loop-row : goal.invariant-loop-row
invariant-loop-row l =
    AreListed l.index l.summaries × AreAlone l.summaries
    × ((set : List Message) → ShowSet (λ m. Contains set m) l.rows [] → GathersRows set (take l.row-index l.rows) l.summaries)
