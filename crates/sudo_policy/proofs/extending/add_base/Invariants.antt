use Rattle.std.proofs.Common.{◌≡◌, take}
use Rattle.sudo_policy.specs.private.AliasKinds.{IsDraft}
use Rattle.sudo_policy.proofs.extending.add_base.Given as goal

abbrev pub invariant-loop-entry : goal.invariant-loop-entry
invariant-loop-entry l = record {
  draft : IsDraft l.draft;
  entries : l.draft.entries.items ≡ take l.entry-index l.entry-items;
}
