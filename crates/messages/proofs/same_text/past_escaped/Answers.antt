use Rattle.messages.proofs.Passing.{past_none, past_same, past_both, escaped_none, escaped_more}
use Rattle.messages.proofs.same_text.past_escaped.Goals as goal

pub loop-byte-init : goal.loop-byte-init
loop-byte-init c = rw escaped_none past_none

pub loop-byte-preserved : goal.loop-byte-preserved
loop-byte-preserved c =
    past_same (past_both c.loop-byte.invariant c.past_byte-left.ensures) (escaped_more c.args.text.now c.loop-byte.byte-index c.loop-byte-test.true)
