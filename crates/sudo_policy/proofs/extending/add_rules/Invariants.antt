use Rattle.std.proofs.Common.{◌≡◌, ◌++◌, map}
use Rattle.sudo_policy.specs.declared.entry.Entry.TheVariants as entries
use Rattle.sudo_policy.specs.private.AliasKinds.{IsDraft}
use Rattle.sudo_policy.proofs.extending.add_rules.Given as goal

abbrev pub invariant-loop-rule : goal.invariant-loop-rule
invariant-loop-rule l = record {
  draft : IsDraft l.draft;
  entries : l.draft.entries.items ≡ l.fn.draft.entries.items ++ map entries.Rule l.yielded;
}
