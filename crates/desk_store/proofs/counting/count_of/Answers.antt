use Rattle.std.proofs.Common.{Bor, List, Ordering, ℕ, refl, subst}
use Rattle.std.specs.Cmp.Lexicographic.{slice_cmp}
use Rattle.std.specs.List.Sorted.{IsStrictlySortedBy}
use Rattle.std.specs.Ordering.{nat_cmp}
use Rattle.desk_store.proofs.CountLemmas.{once}
use Rattle.desk_store.proofs.counting.count_of.Goals as goal

pub returns-then-ascends : goal.returns-then-ascends
returns-then-ascends c =
    let cmp : Bor (List ℕ) → Bor (List ℕ) → Ordering = λ a b. slice_cmp nat_cmp a.now b.now in
    let rises = subst (IsStrictlySortedBy cmp) c.as_slice.ensures.value (c.ascends.ensures c.if-ascends.true) in
    (once c.args.messages.now c.in-Ok.texts.items c.sort_unstable.new.self.items c.in-Ok.ensures c.sort_unstable.ensures.permutation rises, refl)
