use Rattle.messages.specs.Wire.{moment_text}
use Rattle.messages.proofs.Passing.{past_same, past_both}
use Rattle.messages.proofs.PlainTexts.{between_quotes, escaped_moment}
use Rattle.messages.proofs.same_text.past_moment.Goals as goal

pub returns : goal.returns
returns c = λ moment.
    past_same (past_both (past_both (past_both c.past-rest.ensures c.past-rest-2.ensures) (c.past_stamp-rest.ensures moment)) c.past.ensures)
    (between_quotes c.args.head.now (moment_text c.args.moment) (escaped_moment c.args.moment moment))
