-- There is one list in order with given elements, each once.
use Rattle.std.proofs.Common.{◌≡◌, List, [], ◌∷◌, refl, sym, ap, ◌∙◌, subst, inl, inr, ◌⊎◌, arith}
use Rattle.std.specs.List.{Contains}
use Rattle.std.specs.List.Sorted.{IsStrictlySortedBy}
use Rattle.std.specs.declared.cmp.Ordering.{Ordering}
use Rattle.std.specs.declared.cmp.Ordering.TheVariants.{Less, Greater}
use Rattle.std.specs.Cmp.{IsTotalOrder}
use Rattle.std.specs.Ordering.{ordering_reverse}
use Rattle.std.proofs.lemmas.List.Elements.{All-contains, All-from_recursion, Contains-push_cases, Contains-append_cases, Contains-append_right}
use Rattle.std.proofs.lemmas.Map.Keys.{sorted_head, sorted_tail}
use Rattle.sudo_words.specs.Lists.{IsEachOnce}
use Rattle.sudo_words.proofs.Lists.{contains_head}

-- ---- sorted lists with the same elements

pub no_element : {X : Type 0} (z : X) → Contains [] z → ⊥
no_element z none = let low = none.1 in absurd (omega arith)

pub cons_cases : {X : Type 0} (x : X) (xs : List X) (z : X) → Contains (x ∷ xs) z → (x ≡ z) ⊎ Contains xs z
cons_cases x xs z there =
    elim (Contains-append_cases (x ∷ []) xs z there) [
      | inl first ↦ elim (Contains-push_cases [] x z first) [ inl none ↦ absurd (no_element z none) | inr same ↦ inl same ]
      | inr later ↦ inr later
    ]

module _ {X : Type 0} (R : X → X → Ordering) (total : IsTotalOrder R) where
  not_both_below : (x y : X) → R x y ≡ Less → R y x ≡ Less → ⊥
  not_both_below x y low high = let turned : Less ≡ Greater = sym low ∙ total.antisymm x y ∙ ap ordering_reverse high in cc

  below_all : (x : X) (xs : List X) (z : X) → IsStrictlySortedBy R (x ∷ xs) → Contains xs z → R x z ≡ Less
  below_all x xs z sorted there = All-contains (λ y. R x y ≡ Less) xs z (All-from_recursion (λ y. R x y ≡ Less) xs (sorted_head R x xs sorted)) there

  pub one_sorted : (xs ys : List X) → IsStrictlySortedBy R xs → IsStrictlySortedBy R ys
      → ((z : X) → Contains xs z → Contains ys z) → ((z : X) → Contains ys z → Contains xs z) → xs ≡ ys
  one_sorted [] [] sx sy there back = refl
  one_sorted [] (y ∷ ys) sx sy there back = absurd (no_element y (back y (contains_head y ys)))
  one_sorted (x ∷ xs) [] sx sy there back = absurd (no_element x (there x (contains_head x xs)))
  one_sorted (x ∷ xs) (y ∷ ys) sx sy there back =
      let heads : x ≡ y =
      elim (cons_cases y ys x (there x (contains_head x xs))) [
        | inl same ↦ sym same
        | inr later ↦
            elim (cons_cases x xs y (back y (contains_head y ys))) [
              | inl same ↦ same
              | inr also ↦ absurd (not_both_below x y (below_all x xs y sx also) (below_all y ys x sy later))
            ]
      ] in
      let tails : xs ≡ ys =
      one_sorted xs ys (sorted_tail R x xs sx) (sorted_tail R y ys sy)
      (λ z in_xs.
      elim (cons_cases y ys z (there z (Contains-append_right (x ∷ []) xs z in_xs))) [
        | inl same ↦ absurd (itself x z (heads ∙ same) (below_all x xs z sx in_xs))
        | inr later ↦ later
      ])
      (λ z in_ys.
      elim (cons_cases x xs z (back z (Contains-append_right (y ∷ []) ys z in_ys))) [
        | inl same ↦ absurd (itself y z (sym heads ∙ same) (below_all y ys z sy in_ys))
        | inr later ↦ later
      ]) in
      ap (λ (w : X). w ∷ xs) heads ∙ ap (λ (ws : List X). y ∷ ws) tails
    where
      itself : (x z : X) → x ≡ z → R x z ≡ Less → ⊥
      itself x z same low = let own : R z z ≡ Less = subst (λ (w : X). R w z ≡ Less) same low in not_both_below z z own own

  pub one_once : (standing xs ys : List X) → IsEachOnce R standing xs → IsEachOnce R standing ys → xs ≡ ys
  one_once standing xs ys once also =
      one_sorted xs ys once.in_order also.in_order (λ z there. also.each z (once.only z there)) (λ z there. once.each z (also.only z there))
