use Rattle.std.proofs.Common.{◌≡◌, List, ◌++◌, length}
use Rattle.std.specs.Vec.Iter.{into_iter_items, into_iter_len}
use Rattle.messages.specs.declared.message.Message.{Message}
use Rattle.desk_audit.specs.private.ByText.{AreByText}
use Rattle.desk_audit.proofs.gathering.by_text.Given as goal

-- The messages so far stand under their texts.
abbrev pub invariant-loop-message : goal.invariant-loop-message
invariant-loop-message l = record {
  seen : List Message;
  split : seen ++ into_iter_items l.message-iterator ≡ l.fn.list.items;
  are : AreByText seen l.all;
  rest : into_iter_len l.message-iterator ≡ length (into_iter_items l.message-iterator);
}
