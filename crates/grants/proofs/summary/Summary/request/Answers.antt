use Rattle.std.proofs.Common.{sym, ap, subst, ◌∙◌}
use Rattle.grants.specs.Summaries.{Kept}
use Rattle.grants.specs.Verdicts.{StandsAlone}
use Rattle.grants.proofs.StatusLemmas.{stands_alone}
use Rattle.grants.proofs.summary.Summary.request.Goals as goal

pub returns-else-self-clause-alone : goal.returns-else-self-clause-alone
returns-else-self-clause-alone c = λ set s.
    let single = ap (λ (x : Kept). x.is_disputed) (sym c.self.view_is) ∙ c.if-self.false in
    subst (λ (x : Kept). StandsAlone set x.request) (sym c.self.view_is) (stands_alone set c.args.self.now single s)
