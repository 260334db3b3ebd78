use Rattle.std.proofs.Common.{◌≡◌, sym, subst}
use Rattle.std.specs.Prelude.{◌↔◌, IsTrue}
use Rattle.messages.specs.Names.{name_meant}
use Rattle.messages.specs.declared.message.Message.{Message}
use Rattle.messages.specs.declared.request_name.RequestName.{RequestName}
use Rattle.archive.specs.Archive.{IsOver}
use Rattle.archive.specs.private.Ends.{end_at, is_past}
use Rattle.archive.proofs.EndLemmas.{ended_iff}
use Rattle.archive.proofs.ends.is_over.Goals as goal

pub returns-in_ok-name_meant-in-Verdict : goal.returns-in_ok-name_meant-in-Verdict
returns-in_ok-name_meant-in-Verdict c = λ set are.
    let ends = c.args.ends.now in
    let v = c.in-Verdict.verdict in
    let over = c.is_ended.result in
    let is : over ≡ is_past (end_at ends (name_meant v)) c.args.moment =
    subst (λ (n : RequestName). over ≡ is_past (end_at ends n) c.args.moment) c.in_ok-name_meant-in-Verdict.ensures c.is_ended.ensures in
    subst (λ (m : Message). IsTrue over ↔ IsOver set c.args.moment m) (sym c.in-Verdict.is)
    (ended_iff set c.args.moment (name_meant v) ends over are is)
