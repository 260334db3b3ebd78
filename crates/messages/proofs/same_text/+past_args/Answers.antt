use Rattle.std.proofs.Common.{List, ℕ, ap, ◌∙◌}
use Rattle.std.specs.List.{flat_map}
use Rattle.sudo_words.specs.Command.{spaced_arg}
use Rattle.messages.specs.Wire.{escaped}
use Rattle.messages.proofs.Passing.{past_none, past_same, past_both, none_in, first_in, escaped_none, args_more}
use Rattle.messages.proofs.same_text.+past_args.Goals as goal

pub returns-in-empty : goal.returns-in-empty
returns-in-empty t c = rw (← none_in c.args.args.now c.in-empty.len_below, escaped_none) past_none

pub returns-in-len1-up : goal.returns-in-len1-up
returns-in-len1-up t c =
    let first = first_in c.args.args.now c.arg-item.result c.in-len1-up.len_at_least c.arg-item.is in
    past_same (past_both (past_both c.past.ensures c.past_arg.ensures) c.past_args.ensures) (rw (c.as_bytes.ensures.value, c.as_str.ensures.value)
    (args_more c.arg-item.result _ ∙ ap (λ (args : List (List ℕ)). escaped (flat_map spaced_arg args)) first))
