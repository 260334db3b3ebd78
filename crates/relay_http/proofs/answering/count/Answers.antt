use Rattle.relay_http.specs.Request.{count}
use Rattle.relay_http.proofs.AnswerLemmas.{text_lasts, text_served}
use Rattle.relay_http.proofs.JoinedLemmas.{count_right}
use Rattle.relay_http.proofs.answering.count.Goals as goal

pub returns-clause-answered : goal.returns-clause-answered
returns-clause-answered g c =
    let d = c.args.desk.now in
    let done = c.counted.ensures in
    record {
      right = λ set up lists. count_right d.roster d.base d.history set c.counted.result (done.line set up lists) done.err;
      leaves = done.asks.unchanged;
      served = text_served c.counted.result done.asks.served;
    }

pub returns-clause-lasts : goal.returns-clause-lasts
returns-clause-lasts g c =
    let d = c.args.desk.now in
    text_lasts g.K.Keeper d.roster.says d.roster.text d.keeper c.counted.new.desk.keeper count c.counted.result
    c.counted.ensures.asks.live c.counted.ensures.asks.leaves
