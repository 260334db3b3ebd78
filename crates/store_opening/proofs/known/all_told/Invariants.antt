use Rattle.std.proofs.Common.{take}
use Rattle.store_opening.specs.private.Names.{AreAsked}
use Rattle.store_opening.proofs.known.all_told.Given as goal

-- what was told is of the messages that were gone through
abbrev pub invariant-loop-stored : goal.invariant-loop-stored
invariant-loop-stored l = AreAsked (take l.stored-index l.all) l.asked.items
