use Rattle.std.proofs.Common.{List, take}
use Rattle.std.specs.List.{Contains}
use Rattle.messages.specs.Names.{name_of}
use Rattle.messages.specs.declared.message.Message.{Message}
use Rattle.grants.specs.Summaries.{Kept, StandsFor}
use Rattle.suspects.specs.LookedAt.{AllCount}
use Rattle.suspects.proofs.suspects.suspects_among.Given as goal

-- each summary so far is of a suspect, or all approvals under its name count
abbrev pub invariant-loop-summary : goal.invariant-loop-summary
invariant-loop-summary l =
    (set : List Message) → ((k : Kept) → Contains l.summaries k → StandsFor set k) → (k : Kept) → Contains (take l.summary-index l.summaries) k
    → (Contains l.names.keys (name_of k.request) → ⊥) → AllCount l.roster.says set (name_of k.request)
