-- What a search by halves finds in a list that is in order.
use Rattle.std.proofs.Common.{Result, Ok, Err, ◌≡◌, ℕ, zero, suc, ◌+◌, ◌<◌, Bool, false, ◌||◌, List, []}
use Rattle.std.proofs.Common.{◌∷◌, length, get_or, is_ok, ltb, eqb, refl, sym, ap, ◌∙◌, arith, inl, inr}
use Rattle.std.specs.List.{list_any}
use Rattle.std.specs.List.Sorted.{IsStrictlySortedBy, IsNonDecreasingBy, IsSearchInRange, IsBinarySearchResult}
use Rattle.std.specs.declared.cmp.Ordering.{Ordering}
use Rattle.std.specs.declared.cmp.Ordering.TheVariants.{Less, Equal, Greater}
use Rattle.std.specs.Ordering.{is_lt, is_eq, eq_by_cmp, ordering_index, ordering_reverse}
use Rattle.std.specs.Cmp.{IsTotalOrder}
use Rattle.std.proofs.lemmas.Bool.{cases_lt}
use Rattle.std.proofs.lemmas.List.Folds.{list_any_at}
use Rattle.std.proofs.lemmas.List.Sorted.{searchable_from_sorted}
use Rattle.std.proofs.lemmas.Map.Keys.{Less-from_sorted}

-- ---- answers of an order as numbers

pub index_lt : (o : Ordering) → is_lt o ≡ ltb (ordering_index o) 1
index_lt Less = refl
index_lt Equal = refl
index_lt Greater = refl

pub index_eq : (o : Ordering) → is_eq o ≡ eqb (ordering_index o) 1
index_eq Less = refl
index_eq Equal = refl
index_eq Greater = refl

pub no_less_back : {K : Type 0} {R : K → K → Ordering} → IsTotalOrder R → (x y : K) → R x y ≡ Less → is_lt (R y x) ≡ false
no_less_back total x y below = ap is_lt (total.antisymm y x ∙ ap ordering_reverse below)

-- ---- the answers rise along the list

module _ {K : Type 0} {R : K → K → Ordering} (total : IsTotalOrder R) where
  -- neighbours in order have keys that do not fall
  pub answers_rise : {X : Type 0} (key : X → K) (order : X → X → Ordering) → ((x y : X) → order x y ≡ Less → is_lt (R (key y) (key x)) ≡ false)
      → (xs : List X) → IsStrictlySortedBy order xs → (k : K) → IsNonDecreasingBy (λ x. ordering_index (R (key x) k)) xs
  answers_rise key order rise xs sorted k =
      searchable_from_sorted total key xs k
      (λ i d low below. rise (get_or xs i d) (get_or xs (i + 1) d) (Less-from_sorted order xs i (i + 1) d sorted (omega arith) (omega arith)))

  -- ---- one element

  module _ {E : K → K → Bool} (ties : (x y : K) → E x y ≡ eq_by_cmp R x y) where
    none_any : (x : K) (xs : List K) → ((k : ℕ) (d : K) → k < length xs → is_eq (R (get_or xs k d) x) ≡ false) → list_any (λ y. E y x) xs ≡ false
    none_any x [] none = refl
    none_any x (y ∷ ys) none =
        ap (λ (b : Bool). b || list_any (λ z. E z x) ys) (ties y x ∙ none zero y (omega arith)) ∙ none_any x ys (λ k d below. none (suc k) d (omega arith))

    pub among : (xs : List K) (x : K) (r : Result ℕ ℕ) → IsStrictlySortedBy R xs → IsSearchInRange r (length xs) → IsBinarySearchResult (λ y. R y x) xs r
        → is_ok r ≡ list_any (λ y. E y x) xs
    among xs x (Ok i) sorted inside at = sym (list_any_at (λ y. E y x) xs i x inside (ties (get_or xs i x) x ∙ ap is_eq (at x)))
    among xs x (Err i) sorted inside parted =
        let point = parted (answers_rise (λ y. y) R (no_less_back total) xs sorted x) in
        sym (none_any x xs (λ k d below.
        elim (cases_lt k i) [
          | inl lower ↦ ap is_eq (point.0 k d (omega arith) lower)
          | inr higher ↦ ap is_eq (point.1 k d higher below)
        ]))
