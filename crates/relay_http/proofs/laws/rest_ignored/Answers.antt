use Rattle.relay_http.proofs.LawLemmas.{rest_ignored}
use Rattle.relay_http.proofs.laws.rest_ignored.Goals as goal

pub returns : goal.returns
returns c = rest_ignored
