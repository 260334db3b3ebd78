use Rattle.std.proofs.Common.{length, reverse}
use Rattle.desk_store.proofs.TakenIn.{TakenIn}
use Rattle.desk_store.proofs.gathering.known_of.Given as goal

-- what is known so far is known of the messages that are not left
abbrev pub invariant-loop-stored : goal.invariant-loop-stored
invariant-loop-stored l = TakenIn (reverse l.initial.left.items) l.left.items l.gathered

abbrev pub decreases-loop-stored : goal.decreases-loop-stored
decreases-loop-stored l = length l.left.items
