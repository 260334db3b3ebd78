use Rattle.std.proofs.Common.{[], ◌∷◌, ◌++◌, sym, subst}
use Rattle.std.specs.Prelude.{OnOk}
use Rattle.messages.specs.declared.message.Message.{Message}
use Rattle.archive.specs.private.Ends.{AreEnds}
use Rattle.archive.proofs.EndLemmas.{with_verdict}
use Rattle.archive.proofs.ends.take.Goals as goal

pub returns-in-Request-clause-ok : goal.returns-in-Request-clause-ok
returns-in-Request-clause-ok c = λ set are.
    subst (λ (m : Message). OnOk c.add.result (AreEnds (set ++ m ∷ []) c.add.new.ends)) (sym c.in-Request.is) (c.add.ensures.ok set are)

pub returns-in-Verdict-clause-ok : goal.returns-in-Verdict-clause-ok
returns-in-Verdict-clause-ok c = λ set are.
    subst (λ (m : Message). AreEnds (set ++ m ∷ []) c.args.ends.now) (sym c.in-Verdict.is) (with_verdict set c.in-Verdict.field-0 c.args.ends.now are)
