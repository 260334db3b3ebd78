-- Lists in order with the same elements, each as often, are the same.
use Rattle.std.proofs.Common.{◌≡◌, ℕ, suc, ◌≤◌, ◌<◌, false, List, [], ◌∷◌, length, get_or, refl, sym, ap, ◌∙◌, subst, arith}
use Rattle.std.specs.Cmp.{IsTotalOrder}
use Rattle.std.specs.List.{Contains, sum_by}
use Rattle.std.specs.List.Sorted.{IsPermutation, IsSorted}
use Rattle.std.specs.Ordering.{is_lt, ordering_reverse}
use Rattle.std.specs.declared.cmp.Ordering.{Ordering}
use Rattle.std.specs.declared.cmp.Ordering.TheVariants.{Equal, Greater, Less}
use Rattle.std.proofs.lemmas.List.MinMax.{ranks_by}
use Rattle.std.proofs.lemmas.List.Sorted.{sorted_far, sum_by-IsPermutation}
use Rattle.std.proofs.lemmas.List.Sums.{sum_by-cons}
use Rattle.grants.proofs.Members.{Contains-head, Contains-behind}

module _ {X : Type 0} (cmp : X → X → Ordering) (total : IsTotalOrder cmp) (exact : (x y : X) → cmp x y ≡ Equal → x ≡ y) where
  abbrev SameSums : List X → List X → Type 0
  SameSums xs ys = (f : X → ℕ) → sum_by f xs ≡ sum_by f ys

  abbrev Rises : List X → Type 0
  Rises xs = (i j : ℕ) (d : X) → i ≤ j → j < length xs → is_lt (cmp (get_or xs j d) (get_or xs i d)) ≡ false

  itself : (x : X) → cmp x x ≡ Equal
  itself x = by (cmp x x) (total.antisymm x x)
    where
      by : (r : Ordering) → r ≡ ordering_reverse r → r ≡ Equal
      by Less e = absurd cc
      by Equal e = refl
      by Greater e = absurd cc

  abbrev one_if_equal : Ordering → ℕ
  one_if_equal Less = 0
  one_if_equal Equal = 1
  one_if_equal Greater = 0

  abbrev tie : X → X → ℕ
  tie x z = one_if_equal (cmp x z)

  tied : (x z : X) (r : Ordering) → cmp x z ≡ r → tie x z ≡ one_if_equal r
  tied x z r e = ap one_if_equal e

  there : (x : X) (ys : List X) → 1 ≤ sum_by (tie x) ys → Contains ys x
  there x [] some = absurd (omega (arith, some))
  there x (y ∷ ys) some = by (cmp x y) refl (there x ys)
    where
      by : (r : Ordering) → cmp x y ≡ r → (1 ≤ sum_by (tie x) ys → Contains ys x) → Contains (y ∷ ys) x
      by Less e later = Contains-behind y ys x (later (omega (arith, some, sum_by-cons (tie x) y ys, tied x y Less e)))
      by Equal e later = subst (Contains (y ∷ ys)) (sym (exact x y e)) (Contains-head y ys)
      by Greater e later = Contains-behind y ys x (later (omega (arith, some, sum_by-cons (tie x) y ys, tied x y Greater e)))

  counted : (x : X) (xs : List X) → 1 ≤ sum_by (tie x) (x ∷ xs)
  counted x xs = omega (arith, sum_by-cons (tie x) x xs, tied x x Equal (itself x))

  least : (y : X) (ys : List X) (z : X) → Rises (y ∷ ys) → Contains (y ∷ ys) z → is_lt (cmp z y) ≡ false
  least y ys z rises m = subst (λ (w : X). is_lt (cmp w y) ≡ false) m.2 (rises 0 m.0 z (omega arith) m.1)

  neither : (x y : X) → is_lt (cmp x y) ≡ false → is_lt (cmp y x) ≡ false → cmp x y ≡ Equal
  neither x y low high = by (cmp x y) (cmp y x) (total.antisymm x y) low high
    where
      by : (r s : Ordering) → r ≡ ordering_reverse s → is_lt r ≡ false → is_lt s ≡ false → r ≡ Equal
      by Less s e low high = absurd cc
      by Equal s e low high = refl
      by Greater Less e low high = absurd cc
      by Greater Equal e low high = absurd cc
      by Greater Greater e low high = absurd cc

  same_list : (xs ys : List X) → SameSums xs ys → Rises xs → Rises ys → xs ≡ ys
  same_list [] [] sums rx ry = refl
  same_list [] (y ∷ ys) sums rx ry = absurd (omega (arith, counted y ys, sums (tie y)))
  same_list (x ∷ xs) [] sums rx ry = absurd (omega (arith, counted x xs, sums (tie x)))
  same_list (x ∷ xs) (y ∷ ys) sums rx ry =
      let in_ys : Contains (y ∷ ys) x = there x (y ∷ ys) (omega (arith, counted x xs, sums (tie x))) in
      let in_xs : Contains (x ∷ xs) y = there y (x ∷ xs) (omega (arith, counted y ys, sums (tie y))) in
      let heads : x ≡ y = exact x y (neither x y (least y ys x ry in_ys) (least x xs y rx in_xs)) in
      let tails : xs ≡ ys =
      same_list xs ys (λ f. omega (arith, sums f, sum_by-cons f x xs, sum_by-cons f y ys, ap f heads))
      (λ i j d a b. rx (suc i) (suc j) d (omega (arith, a)) (omega (arith, b)))
      (λ i j d a b. ry (suc i) (suc j) d (omega (arith, a)) (omega (arith, b))) in
      ap (λ (w : X). w ∷ xs) heads ∙ ap (λ (ws : List X). y ∷ ws) tails

  -- a list has one order
  pub one_sorted_list : (zs xs ys : List X) → IsPermutation zs xs → IsPermutation zs ys → IsSorted cmp xs → IsSorted cmp ys → xs ≡ ys
  one_sorted_list zs xs ys p q up also =
      same_list xs ys (λ f. sum_by-IsPermutation f zs xs p ∙ sym (sum_by-IsPermutation f zs ys q))
      (λ i j d a b. sorted_far (λ x y. is_lt (cmp x y)) (ranks_by total (λ x. x)) xs up i j d a b)
      (λ i j d a b. sorted_far (λ x y. is_lt (cmp x y)) (ranks_by total (λ x. x)) ys also i j d a b)
