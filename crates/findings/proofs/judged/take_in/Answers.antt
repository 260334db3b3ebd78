use Rattle.std.proofs.Common.{List, sym, subst, ◌∙◌}
use Rattle.std.specs.Prelude.{OnOk}
use Rattle.messages.specs.declared.message.Message.{Message}
use Rattle.grants.specs.Summaries.{StandsFor}
use Rattle.findings.specs.Judging.{messages_on}
use Rattle.findings.proofs.ListLemmas.{one_about}
use Rattle.findings.proofs.judged.take_in.Goals as goal

pub returns-then-is_about-clause-stands : goal.returns-then-is_about-clause-stands
returns-then-is_about-clause-stands c = λ vs stands.
    let q = c.args.request.now in
    subst (λ (ms : List Message). OnOk c.apply.result (StandsFor ms c.apply.new.s))
    (sym (one_about q vs c.args.verdict.now (sym c.is_about.ensures ∙ c.if-is_about.true)))
    (c.apply.ensures.ok (messages_on q vs) stands)
