use Rattle.std.proofs.Common.{List, take}
use Rattle.messages.specs.declared.message.Message.{Message}
use Rattle.outcomes.specs.private.ByName.{Gathers}
use Rattle.outcomes.specs.private.InTurn.{Give, live_for}
use Rattle.outcomes.specs.private.Index.{kept_of, names_lent}
use Rattle.outcomes.proofs.live.live_among.Given as goal

abbrev pub invariant-loop-name : goal.invariant-loop-name
invariant-loop-name l = (set : List Message) → Gathers set l.summaries
    → Give l.roster.says set (live_for l.at) (kept_of l.summaries (names_lent (take l.name-index l.names))) l.list.items
