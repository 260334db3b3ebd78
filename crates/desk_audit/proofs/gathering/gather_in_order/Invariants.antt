use Rattle.std.proofs.Common.{List}
use Rattle.messages.specs.declared.message.Message.{Message}
use Rattle.desk_audit.specs.private.ByText.{AreByText}
use Rattle.desk_audit.proofs.ByTextLemmas.{IsTaken}
use Rattle.desk_audit.proofs.gathering.gather_in_order.Given as goal

-- What the messages read so far say.
abbrev pub invariant-loop-text : goal.invariant-loop-text
invariant-loop-text l = (list : List Message) → AreByText list l.fn.sorted → IsTaken l.fn.sorted.entries l._text-iterator l.all
