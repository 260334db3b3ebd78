use Rattle.relay_http.proofs.SettleLemmas.{full_more}
use Rattle.relay_http.proofs.laws.first_bytes_decide.Goals as goal

pub returns : goal.returns
returns c = λ offered bytes more request full asks. full_more offered bytes more request full asks
