use Rattle.relay_http.proofs.ReceivingLemmas.{come_both, received_behind, sending_behind}
use Rattle.relay_http.proofs.laws.steps_are_one.Goals as goal

pub returns : goal.returns
returns c = record {
  come = come_both;
  received = received_behind;
  sent = sending_behind;
}
