use Rattle.std.proofs.Common.{take}
use Rattle.desk_store.proofs.EachOnce.{AreSame}
use Rattle.desk_store.proofs.replacing.each_once.Given as goal

-- the messages that were gone through are those of the list
abbrev pub invariant-loop-stored : goal.invariant-loop-stored
invariant-loop-stored l = AreSame (take l.stored-index l.all) l.messages
