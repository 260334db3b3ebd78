use Rattle.grants.proofs.NthSmallest.{complete_at_nth, nth_completes}
use Rattle.grants.proofs.status_laws.completion_is_nth_smallest.Goals as goal

pub returns : goal.returns
returns c = λ f set q ceiling moment at some. (complete_at_nth f set q ceiling moment at some, nth_completes f set q ceiling moment at)
