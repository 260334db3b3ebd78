use Rattle.std.proofs.Common.{List, take}
use Rattle.std.specs.List.{AllByRecursion}
use Rattle.messages.specs.declared.message.Message.{Message}
use Rattle.grants.specs.Summaries.{StandsFor}
use Rattle.review.specs.private.Names.{HaveNames}
use Rattle.review.proofs.names.parts_of.Given as goal

abbrev pub invariant-loop-summary : goal.invariant-loop-summary
invariant-loop-summary l =
    (set : List Message) → AllByRecursion (StandsFor set) l.summaries → HaveNames l.roster.says l.base set l.at (take l.summary-index l.summaries) l.parts
