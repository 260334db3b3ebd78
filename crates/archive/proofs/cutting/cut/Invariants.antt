use Rattle.std.proofs.Common.{◌≡◌, List, ◌++◌, length}
use Rattle.std.specs.Vec.Iter.{into_iter_items, into_iter_len}
use Rattle.messages.specs.declared.message.Message.{Message}
use Rattle.archive.specs.private.Ends.{AreEnds}
use Rattle.archive.proofs.Splits.{Splits}
use Rattle.archive.proofs.cutting.cut.Given as goal

-- The messages so far are split by what is over in the whole.
abbrev pub invariant-loop-message : goal.invariant-loop-message
invariant-loop-message l = record {
  seen : List Message;
  split : seen ++ into_iter_items l.message-iterator ≡ l.fn.messages.items;
  ends : AreEnds l.fn.messages.items l.ends;
  are : Splits l.fn.messages.items l.moment seen l.parts.kept.items l.parts.archived.items;
  rest : into_iter_len l.message-iterator ≡ length (into_iter_items l.message-iterator);
}
