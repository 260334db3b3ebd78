use Rattle.relay_http.proofs.LawLemmas.{only_all_deliver, only_messages_deliver, only_post_delivers}
use Rattle.relay_http.proofs.laws.only_post_delivers.Goals as goal

pub returns : goal.returns
returns c = record {
  content = only_post_delivers;
  route = only_messages_deliver;
  all_routes = only_all_deliver;
}
