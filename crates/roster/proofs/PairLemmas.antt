-- Pairs in order: where a binary search ends.
use Rattle.std.proofs.Common.{◌≡◌, ◌<◌, ◌≤◌, ◌+◌, ℕ, ◌∙◌, Bool, true, false, ◌||◌, List, [], ◌∷◌, length}
use Rattle.std.proofs.Common.{get_or, Ordering, Less, Equal, Greater, refl, sym, ap, subst, arith, ⊎_elim}
use Rattle.std.specs.Cmp.{IsTotalOrder, both_tied, on_total, then_total}
use Rattle.std.specs.Cmp.Lexicographic.{nat_list_cmp_total, texts_ties}
use Rattle.std.specs.List.{list_any}
use Rattle.std.specs.List.Sorted.{IsNonDecreasingBy}
use Rattle.std.specs.Ordering.{is_eq, ordering_index}
use Rattle.std.proofs.lemmas.Bool.{cases_lt}
use Rattle.std.proofs.lemmas.List.Folds.{list_any_at}
use Rattle.std.proofs.lemmas.List.Sorted.{list_any-IsPermutation, searchable_from_sorted}
use Rattle.roster.specs.Relations.{is_pair, joins, pair_order}
use Rattle.roster.specs.private.LookupOrders.{AreInOrder, IsInOrder}
use Rattle.roster.proofs.Listed.{absent}
use Rattle.roster.proofs.Rising.{same_place}

abbrev Pair : Type 0
Pair = List ℕ × List ℕ

pair_total : IsTotalOrder pair_order
pair_total = then_total (on_total (λ (p : Pair). p.0) nat_list_cmp_total) (on_total (λ (p : Pair). p.1) nat_list_cmp_total)

-- compared with a pair they are first less, then equal, then greater
climbs : (ps : List Pair) → AreInOrder ps → (p : Pair) → IsNonDecreasingBy (λ q. ordering_index (pair_order q p)) ps
climbs ps rising p = searchable_from_sorted pair_total (λ q. q) ps p rising

pub less : (r : Ordering) → ordering_index r ≤ 0 → r ≡ Less
less Less l = refl
less Equal l = absurd (omega arith)
less Greater l = absurd (omega arith)

pub greater : (r : Ordering) → 2 ≤ ordering_index r → r ≡ Greater
greater Less l = absurd (omega arith)
greater Equal l = absurd (omega arith)
greater Greater l = refl

-- each pair between two indexes compares like this with this one
abbrev pub Rank : List Pair → Pair → Ordering → (from to : ℕ) → Type 0
Rank ps p r from to = (k : ℕ) (d : Pair) → from ≤ k → k < to → k < length ps → pair_order (get_or ps k d) p ≡ r

pub all_less : (ps : List Pair) → AreInOrder ps → (p : Pair) (m : ℕ) (q : Pair)
    → m < length ps → q ≡ get_or ps m q → pair_order q p ≡ Less → Rank ps p Less 0 (m + 1)
all_less ps rising p m q l is lt k d from to within =
    let here : pair_order (get_or ps m d) p ≡ Less = ap (λ x. pair_order x p) (same_place ps m d q l ∙ sym is) ∙ lt in
    less (pair_order (get_or ps k d) p)
    (subst (λ r. ordering_index (pair_order (get_or ps k d) p) ≤ ordering_index r) here (climbs ps rising p k m d (omega arith) l))

pub all_greater : (ps : List Pair) → AreInOrder ps → (p : Pair) (m : ℕ) (q : Pair) → m < length ps
    → q ≡ get_or ps m q → pair_order q p ≡ Greater → Rank ps p Greater m (length ps)
all_greater ps rising p m q l is gt k d from to within =
    let here : pair_order (get_or ps m d) p ≡ Greater = ap (λ x. pair_order x p) (same_place ps m d q l ∙ sym is) ∙ gt in
    greater (pair_order (get_or ps k d) p)
    (subst (λ r. ordering_index r ≤ ordering_index (pair_order (get_or ps k d) p)) here (climbs ps rising p m k d from within))

tied : (first second : List ℕ) (q : Pair) → is_pair first second q ≡ is_eq (pair_order q (first, second))
tied first second q = both_tied _ _ _ _ (texts_ties q.0 first) (texts_ties q.1 second)

pub one_there : (ps : List Pair) (first second : List ℕ) (m : ℕ) (q : Pair) → m < length ps → q ≡ get_or ps m q → pair_order q (first, second) ≡ Equal
    → list_any (is_pair first second) ps ≡ true
one_there ps first second m q l is eq =
    list_any_at (is_pair first second) ps m q l (ap (is_pair first second) (sym is) ∙ tied first second q ∙ ap is_eq eq)

pub none_there : (ps : List Pair) (first second : List ℕ) (m : ℕ) → Rank ps (first, second) Less 0 m → Rank ps (first, second) Greater m (length ps)
    → list_any (is_pair first second) ps ≡ false
none_there ps first second m below above = absent (is_pair first second) ps (λ k d l. tied first second (get_or ps k d) ∙ ⊎_elim
    (λ b. ap is_eq (below k d (omega arith) b l))
    (λ a. ap is_eq (above k d a l l))
    (cases_lt k m))

-- ---- either way round, and in any order

regroup : (a b c d : Bool) → ((a || b) || (c || d)) ≡ ((a || c) || (b || d))
regroup true b c d = refl
regroup false true true d = refl
regroup false true false d = refl
regroup false false c d = refl

any_or : (f g : Pair → Bool) (ps : List Pair) → list_any (λ p. f p || g p) ps ≡ (list_any f ps || list_any g ps)
any_or f g [] = refl
any_or f g (p ∷ ps) = ap (λ b. (f p || g p) || b) (any_or f g ps) ∙ regroup (f p) (g p) (list_any f ps) (list_any g ps)

pub either_way_round : (ps : List Pair) (first second : List ℕ)
    → list_any (joins first second) ps ≡ (list_any (is_pair first second) ps || list_any (is_pair second first) ps)
either_way_round ps first second = any_or (is_pair first second) (is_pair second first) ps

pub any_in_order : (pairs ordered : List Pair) → IsInOrder pair_order pairs ordered → (test : Pair → Bool) → list_any test ordered ≡ list_any test pairs
any_in_order pairs ordered o test = sym (list_any-IsPermutation test pairs ordered o.same)
