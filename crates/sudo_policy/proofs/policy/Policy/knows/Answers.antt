use Rattle.std.proofs.Common.{List, [], ◌∷◌, reverse, subst}
use Rattle.std.specs.Prelude.{◌↔◌, IsTrue}
use Rattle.std.specs.List.{AllByRecursion}
use Rattle.sudo_policy.specs.declared.entry.Rule.{Rule}
use Rattle.sudo_policy.specs.declared.entry.Entry.{Entry}
use Rattle.sudo_policy.specs.Policy.{KnowsRule}
use Rattle.sudo_policy.specs.private.AliasKinds.{RuleIsKnown}
use Rattle.sudo_policy.proofs.Tables.{rule_known, known_rule}
use Rattle.sudo_policy.proofs.policy.Policy.knows.Goals as goal

each_weaker : (P Q : Rule → Type 0) → ((r : Rule) → P r → Q r) → (rules : List Rule) → AllByRecursion P rules → AllByRecursion Q rules
each_weaker P Q h [] all = tt
each_weaker P Q h (r ∷ rules) all = (h r all.0, each_weaker P Q h rules all.1)

pub returns : goal.returns
returns c =
    let es = c.self.inside.draft.entries.items in
    let s = c.self.inside.draft.scope in
    let rules = c.args.rules.now in
    let Kept : Rule → Type 0 = RuleIsKnown s in
    let Known : Rule → Type 0 = KnowsRule (reverse es) in
    let known : IsTrue c.knows.result ↔ AllByRecursion Known rules = (
      λ yes. each_weaker Kept Known (λ r h. rule_known es s r c.self.invariant.scope h) rules (c.knows.ensures.0 yes),
      λ all. c.knows.ensures.1 (each_weaker Known Kept (λ r h. known_rule es s r c.self.invariant.scope h) rules all),
    ) in
    subst (λ (xs : List Entry). IsTrue c.knows.result ↔ AllByRecursion (KnowsRule (reverse xs)) rules) c.self.view_is known
