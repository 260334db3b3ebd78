use Rattle.std.proofs.Common.{sym, ◌∙◌}
use Rattle.messages.proofs.Passing.{past_same, past_both, arg_marked}
use Rattle.messages.proofs.same_text.past_arg_byte.Goals as goal

pub returns-then-is_escaped : goal.returns-then-is_escaped
returns-then-is_escaped c =
    past_same (past_both c.past_byte.ensures c.past_byte-then-is_escaped.ensures) (arg_marked c.args.byte (sym c.is_escaped.ensures ∙ c.if-is_escaped.true))
