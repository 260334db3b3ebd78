use Rattle.messages.specs.Shown.{request_fields}
use Rattle.messages.proofs.Passing.{past_same, past_both, asked_parts}
use Rattle.messages.proofs.same_text.past_asked.Goals as goal

pub returns : goal.returns
returns c =
    rw (← c.r.view_is)
    (past_same (past_both (past_both (c.past_moment-rest.ensures c.r.invariant.at) c.past_member-rest.ensures) c.past_member.ensures)
    (asked_parts (request_fields c.r.inside) c.as_str.result.now c.as_str-2.result.now c.as_str.ensures.value c.as_str-2.ensures.value))
