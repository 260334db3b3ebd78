use Rattle.std.proofs.Common.{◌⊎◌, List, Err, subst, inr}
use Rattle.sudo_policy.specs.declared.entry.Entry.{Entry}
use Rattle.roster.specs.Fields.{Reading}
use Rattle.desk_store.proofs.ServingLemmas.{served_then}
use Rattle.desk_audit.proofs.AuditLemmas.{lists_same}
use Rattle.relay_http.specs.Request.{host_at, host_file_after}
use Rattle.relay_http.specs.Lasting.{Lasts}
use Rattle.relay_http.specs.Prepared.{to_question}
use Rattle.relay_http.specs.Responses.{IsResponse, IsServerFailure}
use Rattle.relay_http.proofs.AnswerLemmas.{server_failure, text_lasts, text_served}
use Rattle.relay_http.proofs.JoinedLemmas.{joined_lasts, joined_right, joined_served}
use Rattle.relay_http.proofs.answering.host_at.Goals as goal

-- ---- the line, and then the file

pub returns-in-Ok-clause-answered : goal.returns-in-Ok-clause-answered
returns-in-Ok-clause-answered g c =
    let K = g.K.Keeper in
    let law = g.met.K.Keeper in
    let old = c.args.desk.now in
    let mid = c.counted.new.desk in
    let new = c.host_file_after.new.desk in
    let host = c.args.host.now in
    let at = c.args.at in
    let counted = c.in-Ok.ensures in
    let asks = counted.asks in
    let file = c.host_file_after.result in
    let told = c.host_file_after.ensures.answered in
    let line = c.in-Ok.line in
    record {
      right = λ set up lists.
          let was_up = told.served.was_up up in
          let same = asks.unchanged was_up in
          let desk = law.stays_desk mid.keeper old.keeper (law.same_back old.keeper mid.keeper same) (counted.desk was_up) in
          let still = lists_same (K.holds old.keeper) (K.holds mid.keeper) set (law.stays_set old.keeper mid.keeper same desk) lists in
          let P : Reading → List Entry → Type 0 = λ r base. IsResponse r base old.history set (host_file_after host at) (to_question file)
          ⊎ IsServerFailure (to_question file) in
          let right = subst (λ (base : List Entry). P old.roster base) asks.settings.base
          (subst (λ (r : Reading). P r mid.base) asks.settings.roster (told.right set up still)) in
          joined_right old.roster old.base old.history set host at line file c.joined.result (counted.line set was_up lists) right c.joined.ensures;
      leaves = λ up. law.same_on old.keeper mid.keeper new.keeper (asks.unchanged (told.served.was_up up)) (told.leaves up);
      served = joined_served line file c.joined.result c.joined.ensures (served_then (λ none. absurd none) asks.served told.served);
    }

pub returns-in-Ok-clause-lasts : goal.returns-in-Ok-clause-lasts
returns-in-Ok-clause-lasts g c =
    let K = g.K.Keeper in
    let old = c.args.desk.now in
    let mid = c.counted.new.desk in
    let new = c.host_file_after.new.desk in
    let host = c.args.host.now in
    let at = c.args.at in
    let asks = c.in-Ok.ensures.asks in
    let file = c.host_file_after.result in
    let told = c.host_file_after.ensures in
    let P : Reading → Type 0 = λ r. Lasts K r.says r.text mid.keeper new.keeper (host_file_after host at) (to_question file) in
    let lasts = subst P asks.settings.roster told.lasts in
    joined_lasts K old.roster.says old.roster.text old.keeper mid.keeper new.keeper host at c.in-Ok.line file c.joined.result c.joined.ensures
    told.answered.served.was_clean asks.leaves lasts

-- ---- no line

pub returns-in-Err-clause-answered : goal.returns-in-Err-clause-answered
returns-in-Err-clause-answered g c =
    let done = c.in-Err.ensures in
    record {
      right = λ set up lists. inr (server_failure c.in-Err.refusal done.err);
      leaves = done.asks.unchanged;
      served = text_served (Err c.in-Err.refusal) done.asks.served;
    }

pub returns-in-Err-clause-lasts : goal.returns-in-Err-clause-lasts
returns-in-Err-clause-lasts g c =
    let d = c.args.desk.now in
    let asks = c.in-Err.ensures.asks in
    text_lasts g.K.Keeper d.roster.says d.roster.text d.keeper c.counted.new.desk.keeper (host_at c.args.host.now c.args.at) (Err c.in-Err.refusal)
    asks.live asks.leaves
