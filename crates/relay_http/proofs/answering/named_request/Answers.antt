use Rattle.desk_audit.specs.Documents.{IsNameText}
use Rattle.relay_http.specs.Request.{named_request}
use Rattle.relay_http.proofs.AnswerLemmas.{told_right, text_lasts, text_served}
use Rattle.relay_http.proofs.answering.named_request.Goals as goal

pub returns-clause-answered : goal.returns-clause-answered
returns-clause-answered g c =
    let done = c.document_of.ensures in
    let says = c.args.desk.now.roster.says in
    record {
      right = λ set up lists. told_right (IsNameText says set (record { by = c.args.asker.now; no = c.args.no })) c.document_of.result
          (done.document set up lists) done.err;
      leaves = done.asks.unchanged;
      served = text_served c.document_of.result done.asks.served;
    }

pub returns-clause-lasts : goal.returns-clause-lasts
returns-clause-lasts g c =
    let d = c.args.desk.now in
    text_lasts g.K.Keeper d.roster.says d.roster.text d.keeper c.document_of.new.desk.keeper (named_request c.args.asker.now c.args.no) c.document_of.result
    c.document_of.ensures.asks.live c.document_of.ensures.asks.leaves
