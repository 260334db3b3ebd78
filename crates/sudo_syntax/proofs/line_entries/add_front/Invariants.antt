use Rattle.std.proofs.Common.{◌≡◌, ◌++◌, length, fold}
use Rattle.std.specs.List.{AllByRecursion}
use Rattle.std.specs.Vec.Iter.{into_iter_items, into_iter_len}
use Rattle.sudo_policy.specs.Inheritance.{rules_of, first_settings, with_spec}
use Rattle.sudo_policy.specs.Policy.{IsEntry}
use Rattle.sudo_policy.specs.private.AliasKinds.{IsDraft}
use Rattle.sudo_syntax.proofs.line_entries.add_front.Given as goal

abbrev pub invariant-loop-spec : goal.invariant-loop-spec
invariant-loop-spec l = record {
  draft : IsDraft l.draft;
  whole : l.draft.entries.items ++ rules_of l.users l.hosts l.held (into_iter_items l.spec-iterator)
      ≡ l.fn.draft.entries.items ++ rules_of l.fn.users l.fn.hosts first_settings l.fn.front.items;
  are : AllByRecursion IsEntry (rules_of l.users l.hosts l.held (into_iter_items l.spec-iterator));
  behind : fold with_spec l.held (into_iter_items l.spec-iterator) ≡ fold with_spec first_settings l.fn.front.items;
  rest : into_iter_len l.spec-iterator ≡ length (into_iter_items l.spec-iterator);
}
