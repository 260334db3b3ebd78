use Rattle.std.proofs.Common.{◌≡◌, ◌++◌, List}
use Rattle.std.specs.List.Sorted.{IsStrictlySortedBy}
use Rattle.outcomes.specs.declared.index.Ending.{Ending}
use Rattle.outcomes.specs.private.Index.{ending_cmp, names_lent}
use Rattle.outcomes.proofs.IndexLemmas.{AreLeft}
use Rattle.outcomes.proofs.index.names_left.Given as goal

abbrev pub invariant-loop-ending : goal.invariant-loop-ending
invariant-loop-ending l = record {
  seen : List Ending;
  split : l.ending-iterator.iter ++ seen ≡ l.endings.keys;
  sorted : IsStrictlySortedBy ending_cmp l.endings.keys;
  left : AreLeft l.after seen (names_lent l.names.items);
}
