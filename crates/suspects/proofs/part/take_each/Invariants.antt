use Rattle.std.proofs.Common.{List, ◌++◌, take}
use Rattle.messages.specs.declared.message.Message.{Message}
use Rattle.outcomes.specs.Gathered.{AreGathered}
use Rattle.suspects.proofs.part.take_each.Given as goal

abbrev pub invariant-loop-message : goal.invariant-loop-message
invariant-loop-message l =
    (some : List Message) → AreGathered some l.fn.part → AreGathered (some ++ take l.message-index l.list) l.part
