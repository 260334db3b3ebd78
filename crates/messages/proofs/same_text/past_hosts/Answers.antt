use Rattle.std.proofs.Common.{ap, ◌∙◌}
use Rattle.messages.specs.Wire.{list_text}
use Rattle.messages.proofs.Passing.{past_same, past_both, none_in, first_in, list_none, list_more}
use Rattle.messages.proofs.same_text.past_hosts.Goals as goal

pub returns-in-empty : goal.returns-in-empty
returns-in-empty c = past_same c.past.ensures (list_none ∙ ap list_text (none_in c.args.hosts.now c.in-empty.len_below))

pub returns-in-len1-up : goal.returns-in-len1-up
returns-in-len1-up c =
    let first = first_in c.args.hosts.now c.host-item.result c.in-len1-up.len_at_least c.host-item.is in
    past_same (past_both c.past_member.ensures c.past_more_hosts.ensures) (rw c.as_str.ensures.value (list_more _ _ ∙ ap list_text first))
