use Rattle.std.proofs.Common.{◌≡◌, ◌++◌, length, map}
use Rattle.std.specs.List.{AllByRecursion}
use Rattle.std.specs.Vec.Iter.{into_iter_items, into_iter_len}
use Rattle.sudo_policy.specs.declared.entry.Entry.TheVariants as entries
use Rattle.sudo_policy.specs.Policy.{IsEntry}
use Rattle.sudo_policy.specs.private.AliasKinds.{IsDraft}
use Rattle.sudo_syntax.proofs.line_entries.add_users.Given as goal

abbrev pub invariant-loop-def : goal.invariant-loop-def
invariant-loop-def l = record {
  draft : IsDraft l.draft;
  whole : l.draft.entries.items ++ map (λ d. entries.UserAlias d.name d.list) (into_iter_items l.def-iterator)
      ≡ l.fn.draft.entries.items ++ map (λ d. entries.UserAlias d.name d.list) l.fn.defs.items;
  are : AllByRecursion IsEntry (map (λ d. entries.UserAlias d.name d.list) (into_iter_items l.def-iterator));
  rest : into_iter_len l.def-iterator ≡ length (into_iter_items l.def-iterator);
}
