use Rattle.sudo_beyond.proofs.Theorem.{exact}
use Rattle.sudo_beyond.proofs.compare.beyond.Goals as goal

pub returns-clause-exact : goal.returns-clause-exact
returns-clause-exact c =
    exact c.args.scope.now c.args.a.now c.args.b.now c.in_ok-cases.cases c.in_ok-cases.ensures.policies.0 c.in_ok-cases.ensures.policies.1
    c.in_ok-cases.ensures.scope c.in_ok-cases.ensures.cases c.in_ok-first_gap.field-0 c.in_ok-first_gap.ensures
