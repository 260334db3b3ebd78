use Rattle.std.proofs.Common.{take}
use Rattle.std.specs.List.{AllByRecursion}
use Rattle.sudo_policy.specs.private.AliasKinds.{RuleIsKnown}
use Rattle.sudo_policy.proofs.alias_kinds.AliasKinds.knows.Given as goal

abbrev pub invariant-loop-rule : goal.invariant-loop-rule
invariant-loop-rule l = AllByRecursion (RuleIsKnown l.self) (take l.rule-index l.rules)
