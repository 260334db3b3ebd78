use Rattle.std.proofs.Common.{arith}
use Rattle.std.proofs.lemmas.Bool.Decides.{nat_tests}
use Rattle.relay_http.proofs.OutgoingLemmas.{sent_on}
use Rattle.relay_http.proofs.outgoing.Outgoing.send_on.Goals as goal

pub loop-rest-preserved : goal.loop-rest-preserved
loop-rest-preserved g c = record {
  sent =
      sent_on (g.W.Write.contents c.args.writer.now.inner) (g.W.Write.contents c.loop-rest.writer.inner) (g.W.Write.contents c.send.new.writer.inner)
      c.args.self c.loop-rest.rest c.send.new.self c.in-Ok.field-0 c.loop-rest.invariant.sent c.in-Ok.ensures.rest c.in-Ok.ensures.taken;
  counted = grind (arith, nat_tests, c.in-Ok.ensures.counted, c.loop-rest.invariant.counted);
}
