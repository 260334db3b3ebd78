use Rattle.messages.proofs.Passing.{whole}
use Rattle.messages.proofs.same_text.is_text_of.Goals as goal

pub returns-in-Request : goal.returns-in-Request
returns-in-Request c = rw c.in-Request.is (whole c.args.body c.past_request.result c.is_whole.result c.past_request.ensures c.is_whole.ensures)

pub returns-in-Verdict : goal.returns-in-Verdict
returns-in-Verdict c =
    rw c.in-Verdict.is (whole c.args.body c.past_verdict.result c.is_whole-in-Verdict.result c.past_verdict.ensures c.is_whole-in-Verdict.ensures)
