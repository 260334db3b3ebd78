use Rattle.std.proofs.Common.{◌≡◌, ◌⊎◌, ℕ, List, true, sym, subst}
use Rattle.sudo_words.specs.Word.{is_host_name}
use Rattle.outcomes.specs.HostFile.{lines_after}
use Rattle.relay_http.proofs.AnswerLemmas.{file_right, left_after, text_lasts, text_served}
use Rattle.relay_http.specs.Request.{host_file_after}
use Rattle.relay_http.specs.Prepared.{to_question}
use Rattle.relay_http.specs.Responses.{IsResponse, IsServerFailure}
use Rattle.relay_http.proofs.answering.host_file_after.Goals as goal

pub returns-in-Ok-clause-answered : goal.returns-in-Ok-clause-answered
returns-in-Ok-clause-answered g c =
    let roster = c.args.desk.now.roster in
    let f = roster.says in
    let base = c.args.desk.now.base in
    let history = c.args.desk.now.history in
    let at = c.args.at in
    let done = c.host_file_after.ensures in
    let found = c.in-Ok.ensures.found in
    let name : is_host_name c.in-Ok.host ≡ true = subst (λ (h : List ℕ). is_host_name h ≡ true) (sym found.0) found.1 in
    record {
      right = λ set up lists. subst (λ (h : List ℕ). IsResponse roster base history set (host_file_after h at) (to_question c.host_file_after.result)
          ⊎ IsServerFailure (to_question c.host_file_after.result)) found.0 (file_right (lines_after at) f base set c.in-Ok.host c.host_file_after.result name
          (left_after f base set c.in-Ok.host at c.host_file_after.result (done.file set up lists))
          (λ ls. done.few set ls up lists) (λ ls. done.many set ls up lists) done.unknown done.err);
      leaves = done.asks.unchanged;
      served = text_served c.host_file_after.result done.asks.served;
    }

pub returns-in-Ok-clause-lasts : goal.returns-in-Ok-clause-lasts
returns-in-Ok-clause-lasts g c =
    let d = c.args.desk.now in
    text_lasts g.K.Keeper d.roster.says d.roster.text d.keeper c.host_file_after.new.self.keeper
    (host_file_after c.args.host.now c.args.at) c.host_file_after.result c.host_file_after.ensures.asks.live c.host_file_after.ensures.asks.leaves
