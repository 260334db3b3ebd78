use Rattle.std.proofs.Common.{subst}
use Rattle.std.specs.Prelude.{IfOk, string_bytes}
use Rattle.desk_audit.specs.Documents.{IsAuditText}
use Rattle.findings.specs.Picks.{all}
use Rattle.findings.specs.declared.pick.Pick.{Pick}
use Rattle.relay_http.specs.Request.{requests}
use Rattle.relay_http.proofs.AnswerLemmas.{told_right, text_lasts, text_served}
use Rattle.relay_http.proofs.answering.requests.Goals as goal

pub returns-clause-answered : goal.returns-clause-answered
returns-clause-answered g c =
    let done = c.document.ensures in
    let says = c.args.desk.now.roster.says in
    record {
      right = λ set up lists. told_right (IsAuditText says set all) c.document.result
          (subst (λ (p : Pick). IfOk c.document.result (λ s. IsAuditText says set p (string_bytes s))) c.all.ensures (done.document set up lists)) done.err;
      leaves = done.asks.unchanged;
      served = text_served c.document.result done.asks.served;
    }

pub returns-clause-lasts : goal.returns-clause-lasts
returns-clause-lasts g c =
    let d = c.args.desk.now in
    text_lasts g.K.Keeper d.roster.says d.roster.text d.keeper c.document.new.desk.keeper requests c.document.result
    c.document.ensures.asks.live c.document.ensures.asks.leaves
