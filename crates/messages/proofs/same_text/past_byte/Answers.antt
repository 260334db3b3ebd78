use Rattle.std.proofs.Common.{sym, ◌∙◌}
use Rattle.messages.proofs.Passing.{past_same, past_both, escaped_marked, escaped_kept}
use Rattle.messages.proofs.same_text.past_byte.Goals as goal

pub returns-then-is_marked : goal.returns-then-is_marked
returns-then-is_marked c =
    past_same (past_both c.past_plain.ensures c.past_plain-then-is_marked.ensures)
    (sym (escaped_marked c.args.byte (sym c.is_marked.ensures ∙ c.if-is_marked.true)))

pub returns-else-is_marked : goal.returns-else-is_marked
returns-else-is_marked c =
    past_same c.past_plain-else-is_marked.ensures (sym (escaped_kept c.args.byte (sym c.is_marked.ensures ∙ c.if-is_marked.false)))
