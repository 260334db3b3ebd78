use Rattle.outcomes.proofs.PastGrants.{past_grants}
use Rattle.outcomes.proofs.past_laws.past_grants_stay.Goals as goal

pub returns : goal.returns
returns c = past_grants
