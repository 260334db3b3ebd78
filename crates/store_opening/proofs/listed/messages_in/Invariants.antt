use Rattle.store_opening.specs.private.Reading.{AreBodies}
use Rattle.store_opening.proofs.listed.messages_in.Given as goal

-- what was read is of the rows that were gone through
abbrev pub invariant-loop-row : goal.invariant-loop-row
invariant-loop-row l = AreBodies l.yielded l.messages.items
