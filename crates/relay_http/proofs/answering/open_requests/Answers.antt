use Rattle.desk_audit.specs.Documents.{IsOpenText}
use Rattle.relay_http.specs.Request.{open_requests}
use Rattle.relay_http.proofs.AnswerLemmas.{told_right, text_lasts, text_served}
use Rattle.relay_http.proofs.answering.open_requests.Goals as goal

pub returns-clause-answered : goal.returns-clause-answered
returns-clause-answered g c =
    let done = c.open_document.ensures in
    let says = c.args.desk.now.roster.says in
    record {
      right = λ set up lists. told_right (IsOpenText says set c.args.at) c.open_document.result (done.document set up lists) done.err;
      leaves = done.asks.unchanged;
      served = text_served c.open_document.result done.asks.served;
    }

pub returns-clause-lasts : goal.returns-clause-lasts
returns-clause-lasts g c =
    let d = c.args.desk.now in
    text_lasts g.K.Keeper d.roster.says d.roster.text d.keeper c.open_document.new.desk.keeper (open_requests c.args.at) c.open_document.result
    c.open_document.ensures.asks.live c.open_document.ensures.asks.leaves
