-- Lists: what they contain, and what is added to them part by part.
use Rattle.std.proofs.Common.{◌≡◌, ℕ, ◌+◌, ◌<◌, Bool, true, List, [], ◌∷◌, ◌++◌, length, map, take}
use Rattle.std.proofs.Common.{get_or, refl, sym, ap, ◌∙◌, subst, inl, inr, arith, append_assoc}
use Rattle.std.specs.Bool.{Decides}
use Rattle.std.specs.List.{Contains, list_any}
use Rattle.std.specs.List.Retain.{IsFiltered, DiffersFromLast}
use Rattle.std.specs.List.Sorted.{IsSorted, IsPermutation}
use Rattle.std.specs.declared.cmp.Ordering.{Ordering}
use Rattle.std.specs.Ordering.{eq_by_cmp}
use Rattle.std.specs.Cmp.{IsTotalOrder, IsEquivalence}
use Rattle.std.proofs.lemmas.Bool.{false≢true, or_cases}
use Rattle.std.proofs.lemmas.Bool.Decides.{same_from_decides}
use Rattle.std.proofs.lemmas.List.{append-nil, take_more, get_or-map, length-map}
use Rattle.std.proofs.lemmas.List.Elements.{Contains-append_left, Contains-append_right, Contains-push}
use Rattle.std.proofs.lemmas.List.Filters.{dedup_is}
use Rattle.std.proofs.lemmas.List.Folds.{list_any_at}
use Rattle.std.proofs.lemmas.List.Kept.{Contains-dedup, Contains-from_dedup, IsStrictlySortedBy-dedup}
use Rattle.std.proofs.lemmas.List.Sorted.{Contains-permutation, IsPermutation-sym}
use Rattle.sudo_words.specs.Lists.{IsEachOnce, IsExact, AreParts}

-- ---- what is contained

-- what a test of equality finds is there
pub any_contains : {X : Type 0} (eq : X → X → Bool) → ((a b : X) → Decides (eq a b) (a ≡ b))
    → (xs : List X) (x : X) → list_any (λ y. eq y x) xs ≡ true → Contains xs x
any_contains eq decides [] x found = absurd (false≢true found)
any_contains {X} eq decides (y ∷ ys) x found =
    elim (or_cases (eq y x) (list_any (λ z. eq z x) ys) found) [
      | inl here ↦ Contains-append_left (y ∷ []) ys x (subst (λ (z : X). Contains (y ∷ []) z) ((decides y x).0 here) (Contains-push [] y))
      | inr later ↦ Contains-append_right (y ∷ []) ys x (any_contains eq decides ys x later)
    ]

pub contains_any : {X : Type 0} (eq : X → X → Bool) → ((a b : X) → Decides (eq a b) (a ≡ b))
    → (xs : List X) (x : X) → Contains xs x → list_any (λ y. eq y x) xs ≡ true
contains_any eq decides xs x there = list_any_at (λ y. eq y x) xs there.0 x there.1 ((decides (get_or xs there.0 x) x).1 there.2)

-- an element is found in `listed` exactly if it is found in `standing`
pub any_once : {X : Type 0} (eq : X → X → Bool) → ((a b : X) → Decides (eq a b) (a ≡ b)) → (order : X → X → Ordering) (standing listed : List X)
    → IsEachOnce order standing listed → (x : X) → list_any (λ y. eq y x) listed ≡ list_any (λ y. eq y x) standing
any_once eq decides order standing listed once x =
    same_from_decides (list_any (λ y. eq y x) listed) (list_any (λ y. eq y x) standing)
    (λ found. once.only x (any_contains eq decides listed x found), λ stands. contains_any eq decides listed x (once.each x stands))
    (λ found. any_contains eq decides standing x found, λ stands. contains_any eq decides standing x stands)

pub contains_map : {X Y : Type 0} (f : X → Y) (xs : List X) (x : X) → Contains xs x → Contains (map f xs) (f x)
contains_map f xs x there = (there.0, omega (arith, length-map xs f, there.1), get_or-map f xs there.0 x (f x) there.1 ∙ ap f there.2)

pub contains_head : {X : Type 0} (x : X) (xs : List X) → Contains (x ∷ xs) x
contains_head x xs = Contains-append_left (x ∷ []) xs x (Contains-push [] x)

-- ---- sorted, each once

pub each_once : {X : Type 0} {R : X → X → Ordering} → IsTotalOrder R → {E : X → X → Bool} → ((x y : X) → E x y ≡ eq_by_cmp R x y) → IsEquivalence E → IsExact E
    → (standing sorted kept : List X) → IsPermutation standing sorted → IsSorted R sorted
    → IsFiltered (DiffersFromLast E) [] sorted kept → IsEachOnce R standing kept
each_once {X} {R} total {E} ties equivalence exact standing sorted kept permuted rising filtered =
    subst (λ (xs : List X). IsEachOnce R standing xs) (sym (dedup_is E sorted kept filtered))
    (record {
      in_order = IsStrictlySortedBy-dedup total ties sorted rising;
      each = λ x stands. Contains-dedup equivalence exact sorted x (Contains-permutation standing sorted x permuted stands);
      only = λ x listed. Contains-permutation sorted standing x (IsPermutation-sym standing sorted permuted) (Contains-from_dedup E sorted x listed);
    })

-- ---- parts

pub take_next : {X : Type 0} (xs : List X) (k : ℕ) (x : X) → k < length xs → x ≡ get_or xs k x → take (k + 1) xs ≡ take k xs ++ x ∷ []
take_next xs k x below is = take_more xs k x below ∙ ap (λ y. take k xs ++ y ∷ []) (sym is)

pub parts_more : {X Y : Type 0} (IsPart : X → List Y → Type 0) (xs : List X) (x : X) (ys part : List Y)
    → AreParts IsPart xs ys → IsPart x part → AreParts IsPart (xs ++ x ∷ []) (ys ++ part)
parts_more {X} {Y} IsPart [] x ys part are is = (part, [], ap (λ (zs : List Y). zs ++ part) are ∙ sym (append-nil part), is, refl)
parts_more {X} {Y} IsPart (y ∷ xs) x ys part are is = (
  are.0,
  are.1 ++ part,
  ap (λ (zs : List Y). zs ++ part) are.2 ∙ append_assoc are.0 are.1 part,
  are.3,
  parts_more IsPart xs x are.1 part are.4 is,
)

pub parts_weaker : {X Y : Type 0} (IsPart IsAlso : X → List Y → Type 0) → ((x : X) (part : List Y) → IsPart x part → IsAlso x part)
    → (xs : List X) (ys : List Y) → AreParts IsPart xs ys → AreParts IsAlso xs ys
parts_weaker IsPart IsAlso also [] ys are = are
parts_weaker IsPart IsAlso also (x ∷ xs) ys are = (are.0, are.1, are.2, also x are.0 are.3, parts_weaker IsPart IsAlso also xs are.1 are.4)

pub one_parts : {X Y : Type 0} (IsPart : X → List Y → Type 0) → ((x : X) (ys zs : List Y) → IsPart x ys → IsPart x zs → ys ≡ zs)
    → (xs : List X) (ys zs : List Y) → AreParts IsPart xs ys → AreParts IsPart xs zs → ys ≡ zs
one_parts IsPart one [] ys zs are also = are ∙ sym also
one_parts {X} {Y} IsPart one (x ∷ xs) ys zs are also =
    are.2
    ∙ ap (λ (part : List Y). part ++ are.1) (one x are.0 also.0 are.3 also.3)
    ∙ ap (λ (rest : List Y). also.0 ++ rest) (one_parts IsPart one xs are.1 also.1 are.4 also.4)
    ∙ sym also.2
