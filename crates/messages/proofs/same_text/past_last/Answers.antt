use Rattle.messages.specs.Shown.{request_fields}
use Rattle.messages.proofs.Passing.{past_same, past_both, last_parts}
use Rattle.messages.proofs.same_text.past_last.Goals as goal

pub returns : goal.returns
returns c =
    rw (← c.r.view_is)
    (past_same (past_both (past_both (past_both (past_both c.past_member-rest.ensures c.past_number-rest.ensures) c.past_member-rest-2.ensures)
    (c.past_moment-rest.ensures c.r.invariant.until)) c.past.ensures) (last_parts (request_fields c.r.inside) c.as_str.result.now c.as_str.ensures.value))
