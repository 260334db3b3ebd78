use Rattle.std.proofs.Common.{List, reverse, sym, subst}
use Rattle.std.specs.List.{AllByRecursion}
use Rattle.std.proofs.lemmas.Bool.{both_ways}
use Rattle.sudo_policy.specs.declared.entry.Rule.{Rule}
use Rattle.sudo_policy.specs.Policy.{KnowsRule}
use Rattle.sudo_policy.proofs.PolicyFronts.{extended_known}
use Rattle.sudo_policy.proofs.extending.extend.Goals as goal

pub returns-then-not-knows-clause-only : goal.returns-then-not-knows-clause-only
returns-then-not-knows-clause-only c = λ whole.
    let base = c.args.base.now in
    let all = extended_known base c.args.rules.items whole in
    let known = subst (λ (rules : List Rule). AllByRecursion (KnowsRule (reverse base)) rules) (sym c.deref.ensures.value) all in
    absurd (both_ways c.knows.result c.if-not-knows.true (c.knows.ensures.1 known))
