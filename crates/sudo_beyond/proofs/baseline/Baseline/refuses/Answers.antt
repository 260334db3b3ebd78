use Rattle.std.proofs.Common.{List, sym, ◌∙◌, subst}
use Rattle.sudo_policy.specs.declared.entry.Entry.{Entry}
use Rattle.sudo_decide.specs.declared.decision.Decision.{Decision}
use Rattle.sudo_decide.specs.declared.decision.Decision.TheVariants.{Deny}
use Rattle.sudo_decide.specs.Decision.{Decides}
use Rattle.sudo_beyond.proofs.baseline.Baseline.refuses.Goals as goal

pub returns-in-Deny : goal.returns-in-Deny
returns-in-Deny c = λ yes.
    subst (λ (es : List Entry). Decides es c.args.i.now Deny) c.self.view_is
    (subst (λ (d : Decision). Decides c.self.inside.policy.now c.args.i.now d) (sym c.decide.ensures ∙ c.in-Deny.is) (c.self.invariant.answers c.args.i.now))
