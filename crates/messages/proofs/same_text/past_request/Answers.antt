use Rattle.messages.proofs.Passing.{past_same, past_both, request_whole}
use Rattle.messages.proofs.same_text.past_request.Goals as goal

pub returns : goal.returns
returns c = past_same (past_both (past_both c.past_asked-rest.ensures c.past_lists-rest.ensures) c.past_last.ensures) (request_whole c.args.r.now)
