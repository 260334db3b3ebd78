use Rattle.messages.proofs.Passing.{past_same, past_both, quoted_is}
use Rattle.messages.proofs.same_text.past_text.Goals as goal

pub returns : goal.returns
returns c =
    past_same (past_both (past_both c.past-rest.ensures c.past_escaped-rest.ensures) c.past.ensures)
    (quoted_is c.as_bytes.result.now c.args.text.now c.as_bytes.ensures.value)
