use Rattle.relay_http.proofs.ResponseLemmas.{one_response}
use Rattle.relay_http.proofs.laws.one_response.Goals as goal

pub returns : goal.returns
returns c = one_response
