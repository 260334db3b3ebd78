use Rattle.review.specs.Report.{IsReport}
use Rattle.relay_http.specs.Request.{report}
use Rattle.relay_http.proofs.AnswerLemmas.{told_right, text_lasts, text_served}
use Rattle.relay_http.proofs.answering.report.Goals as goal

pub returns-clause-answered : goal.returns-clause-answered
returns-clause-answered g c =
    let done = c.report.ensures in
    record {
      right = λ set up lists. told_right (IsReport c.args.desk.now.roster.says c.args.desk.now.base set c.args.at) c.report.result
          (done.report set up lists) done.err;
      leaves = done.asks.unchanged;
      served = text_served c.report.result done.asks.served;
    }

pub returns-clause-lasts : goal.returns-clause-lasts
returns-clause-lasts g c =
    let d = c.args.desk.now in
    text_lasts g.K.Keeper d.roster.says d.roster.text d.keeper c.report.new.desk.keeper (report c.args.at) c.report.result
    c.report.ensures.asks.live c.report.ensures.asks.leaves
