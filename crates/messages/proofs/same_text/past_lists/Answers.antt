use Rattle.messages.specs.Shown.{request_fields}
use Rattle.messages.proofs.Passing.{past_same, past_both, lists_parts}
use Rattle.messages.proofs.same_text.past_lists.Goals as goal

pub returns : goal.returns
returns c =
    rw (← c.r.view_is) (past_same
    (past_both (past_both (past_both (past_both c.past.ensures c.past_cmnds-rest.ensures) (c.past_moment-rest.ensures c.r.invariant.from)) c.past-2.ensures)
    c.past_hosts.ensures) (lists_parts (request_fields c.r.inside) c.deref.result.now c.deref-2.result.now c.deref.ensures.value c.deref-2.ensures.value))
