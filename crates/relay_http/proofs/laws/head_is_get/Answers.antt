use Rattle.std.proofs.Common.{List, ℕ, ◌++◌, length, sym, ap}
use Rattle.std.proofs.lemmas.List.{append-nil}
use Rattle.relay_http.specs.Response.{response_head}
use Rattle.relay_http.proofs.LawLemmas.{head_action}
use Rattle.relay_http.proofs.laws.head_is_get.Goals as goal

pub returns : goal.returns
returns c = record {
  asks = head_action;
  response = λ s body. ap (λ (front : List ℕ). front ++ body) (sym (append-nil (response_head s (length body))));
}
