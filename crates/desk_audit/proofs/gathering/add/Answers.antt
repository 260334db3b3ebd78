use Rattle.std.proofs.Common.{[], ◌∷◌, ◌++◌, refl, subst, sym}
use Rattle.messages.specs.declared.message.Message.{Message}
use Rattle.desk_audit.specs.Told.{TellsMessages, name_in}
use Rattle.findings.specs.declared.entry.About.{About}
use Rattle.desk_audit.specs.private.ByName.{IsBehind}
use Rattle.desk_audit.proofs.ToldLemmas.{told_request, told_verdict}
use Rattle.desk_audit.proofs.gathering.add.Goals as goal

pub returns-in_ok-push-in-Request : goal.returns-in_ok-push-in-Request
returns-in_ok-push-in-Request c = λ set.
    let old = c.args.about.now in
    let new : About = record { requests = c.push.new.self; verdicts = old.verdicts } in
    let P : Message → Type 0 = λ m. IsBehind set m → TellsMessages set (name_in m) old → TellsMessages (set ++ m ∷ []) (name_in m) new in
    subst P (sym c.in-Request.is) (λ behind told. told_request set c.in-Request.request old new c.in_ok-push-in-Request.ensures.items refl told behind)

pub returns-in_ok-push-in-Verdict : goal.returns-in_ok-push-in-Verdict
returns-in_ok-push-in-Verdict c = λ set.
    let old = c.args.about.now in
    let new : About = record { requests = old.requests; verdicts = c.push-in-Verdict.new.self } in
    let P : Message → Type 0 = λ m. IsBehind set m → TellsMessages set (name_in m) old → TellsMessages (set ++ m ∷ []) (name_in m) new in
    subst P (sym c.in-Verdict.is) (λ behind told. told_verdict set c.in-Verdict.verdict old new c.in_ok-push-in-Verdict.ensures.items refl told behind)
