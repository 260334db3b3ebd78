use Rattle.std.proofs.Common.{reverse, ◌∙◌, ap, sym}
use Rattle.sudo_policy.specs.declared.entry.Entry.{Entry}
use Rattle.sudo_decide.specs.Decision.{entry_says}
use Rattle.sudo_decide.proofs.DecisionLemmas.{decides_silent_last}
use Rattle.sudo_decide.proofs.policy.decision_after.Goals as goal

pub returns-in-None : goal.returns-in-None
returns-in-None c = λ es by.
    let quiet = ap (λ (e : Entry). entry_says (reverse c.args.p.now) e c.args.i.now) c.in-Rule.is ∙ sym c.in-None.ensures in
    decides_silent_last (reverse c.args.p.now) es c.args.entry.now c.args.i.now c.args.before quiet by
