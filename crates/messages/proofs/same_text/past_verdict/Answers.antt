use Rattle.messages.specs.Shown.{verdict_fields}
use Rattle.messages.proofs.Passing.{past_same, past_both, verdict_parts}
use Rattle.messages.proofs.same_text.past_verdict.Goals as goal

pub returns : goal.returns
returns c =
    rw (← c.v.view_is)
    (past_same (past_both (past_both (past_both (past_both (past_both (c.past_moment-rest.ensures c.v.invariant.at) c.past_member-rest.ensures)
    c.past_member-rest-2.ensures) c.past_number-rest.ensures) c.past_member-rest-3.ensures) c.past.ensures) (verdict_parts (verdict_fields c.v.inside)
    c.as_str.result.now c.word.result.now c.as_str-2.result.now c.as_str.ensures.value c.word.ensures c.as_str-2.ensures.value))
