use Rattle.std.proofs.Common.{◌≡◌, ◌++◌, length}
use Rattle.std.specs.List.{AllByRecursion, flat_map}
use Rattle.std.specs.Vec.Iter.{into_iter_items, into_iter_len}
use Rattle.sudo_policy.specs.Inheritance.{part_rules}
use Rattle.sudo_policy.specs.Policy.{IsEntry}
use Rattle.sudo_policy.specs.private.AliasKinds.{IsDraft}
use Rattle.sudo_syntax.proofs.line_entries.add_front_parts.Given as goal

abbrev pub invariant-loop-part : goal.invariant-loop-part
invariant-loop-part l = record {
  draft : IsDraft l.draft;
  whole : l.draft.entries.items ++ flat_map (part_rules l.users) (into_iter_items l.part-iterator)
      ≡ l.fn.draft.entries.items ++ flat_map (part_rules l.fn.users) l.fn.front.items;
  are : AllByRecursion IsEntry (flat_map (part_rules l.users) (into_iter_items l.part-iterator));
  rest : into_iter_len l.part-iterator ≡ length (into_iter_items l.part-iterator);
}
