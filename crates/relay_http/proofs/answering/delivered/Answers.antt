use Rattle.std.proofs.Common.{subst, sym}
use Rattle.relay_http.specs.Request.{deliver}
use Rattle.relay_http.specs.Lasting.{Lasts}
use Rattle.relay_http.specs.Responses.{Response}
use Rattle.relay_http.proofs.AnswerLemmas.{delivery_lasts}
use Rattle.relay_http.proofs.answering.delivered.Goals as goal

pub returns-clause-lasts : goal.returns-clause-lasts
returns-clause-lasts g c =
    let K = g.K.Keeper in
    let d = c.args.desk.now in
    let new = c.deliver.new.self.keeper in
    let relay = c.args.relay.now in
    let body = c.args.body.now in
    let P : Response → Type 0 = λ response. Lasts K d.roster.says d.roster.text d.keeper new (deliver relay body) response in
    subst P (sym c.to_delivery.ensures.response)
    (delivery_lasts K d.roster.says d.roster.text d.keeper new relay body c.deliver.result c.deliver.ensures.live c.deliver.ensures.leaves)
