use Rattle.std.proofs.Common.{refl, inr}
use Rattle.relay_http.proofs.JoinedLemmas.{both_in_one}
use Rattle.relay_http.proofs.laws.both_in_one.Goals as goal

pub returns : goal.returns
returns c = record {
  file = both_in_one;
  refused = λ roster base history set host at e is. inr (e, is, refl);
}
