use Rattle.relay_http.proofs.RouteLemmas.{all_stay, messages_go, none_stays, others_stay}
use Rattle.relay_http.proofs.laws.routes_of_sockets.Goals as goal

pub returns : goal.returns
returns c = record {
  all = all_stay;
  none = none_stays;
  gone = messages_go;
  stays = others_stay;
}
