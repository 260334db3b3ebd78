use Rattle.relay_http.proofs.HistoryLemmas.{history_lasts, history_right, history_served}
use Rattle.relay_http.proofs.answering.site_history.Goals as goal

pub returns-clause-answered : goal.returns-clause-answered
returns-clause-answered g c =
    let d = c.args.desk.now in
    let done = c.known_history.ensures in
    record {
      right = λ set up lists. history_right d.roster.text d.base d.history c.known_history.result done.told done.ends done.err;
      leaves = done.asks.unchanged;
      served = history_served c.known_history.result done.asks.served;
    }

pub returns-clause-lasts : goal.returns-clause-lasts
returns-clause-lasts g c =
    let d = c.args.desk.now in
    let asks = c.known_history.ensures.asks in
    history_lasts g.K.Keeper d.roster.says d.roster.text d.keeper c.known_history.new.desk.keeper c.known_history.result asks.live asks.leaves
