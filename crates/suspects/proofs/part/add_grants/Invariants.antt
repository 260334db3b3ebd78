use Rattle.std.proofs.Common.{List, ◌++◌, map, take}
use Rattle.messages.specs.declared.message.Message.{Message}
use Rattle.messages.specs.declared.request_name.RequestName.{RequestName}
use Rattle.outcomes.specs.Outcomes.{LiveGrant}
use Rattle.suspects.specs.private.Parts.{AreWritable, IsPartFor}
use Rattle.suspects.proofs.part.add_grants.Given as goal

abbrev pub invariant-loop-live : goal.invariant-loop-live
invariant-loop-live l =
    (set : List Message) (before : List RequestName) → AreWritable set l.gathered → IsPartFor set before l.fn.part
    → IsPartFor set (before ++ map (λ (x : LiveGrant). x.name) (take l.live-index l.grants)) l.part
