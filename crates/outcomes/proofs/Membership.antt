-- The members of a list, by its head and its tail.
use Rattle.std.proofs.Common.{◌≡◌, ℕ, List, [], ◌∷◌, ap, subst, zero, suc, ◌<◌, length, get_or, Some, true, arith, inl, inr, ◌⊎◌}
use Rattle.std.specs.List.{Contains, slice_get, list_any}
use Rattle.std.specs.Str.{bytes_eq}
use Rattle.std.proofs.lemmas.Bool.{or_cases, or_left, or_right}
use Rattle.std.proofs.lemmas.Slice.Eq.{bytes_eq-Decides}
use Rattle.std.proofs.lemmas.List.Elements.{Contains-append_left, Contains-append_right, Contains-append_cases, Contains-push, Contains-push_cases}

pub no_member : {X : Type 0} (x : X) → Contains [] x → ⊥
no_member x m = omega (arith, m.1)

pub Contains-head : {X : Type 0} (x : X) (xs : List X) → Contains (x ∷ xs) x
Contains-head x xs = Contains-append_left (x ∷ []) xs x (Contains-push [] x)

pub Contains-behind : {X : Type 0} (y : X) (xs : List X) (x : X) → Contains xs x → Contains (y ∷ xs) x
Contains-behind y xs x m = Contains-append_right (y ∷ []) xs x m

head_cases : {X : Type 0} (y x : X) → Contains (y ∷ []) x → y ≡ x
head_cases y x m =
    elim (Contains-push_cases [] y x m) as (λ _. y ≡ x) [ inl none ↦ absurd (no_member x none) | inr same ↦ same ]

pub Contains-cases : {X : Type 0} (y : X) (xs : List X) (x : X) → Contains (y ∷ xs) x → (y ≡ x) ⊎ Contains xs x
Contains-cases y xs x m =
    elim (Contains-append_cases (y ∷ []) xs x m) as (λ _. (y ≡ x) ⊎ Contains xs x) [ inl here ↦ inl (head_cases y x here) | inr there ↦ inr there ]

-- a member by its place
pub Contains-from_get : {X : Type 0} (xs : List X) (k : ℕ) (x : X) → slice_get xs k ≡ Some x → Contains xs x
Contains-from_get [] k x is = absurd cc
Contains-from_get {X} (y ∷ ys) zero x is =
    let same : y ≡ x = cc in
    let P : X → Type 0 = λ z. Contains (y ∷ ys) z in
    subst P same (Contains-head y ys)
Contains-from_get (y ∷ ys) (suc k) x is = Contains-behind y ys x (Contains-from_get ys k x is)

get_at : {X : Type 0} (xs : List X) (k : ℕ) (x d : X) → k < length xs → get_or xs k d ≡ x → slice_get xs k ≡ Some x
get_at [] k x d within is = absurd (omega (arith, within))
get_at {X} (y ∷ ys) zero x d within is = ap (λ (z : X). Some z) is
get_at (y ∷ ys) (suc k) x d within is = get_at ys k x d (omega (arith, within)) is

pub get_from_Contains : {X : Type 0} (xs : List X) (x : X) → Contains xs x → (k : ℕ) × (slice_get xs k ≡ Some x)
get_from_Contains xs x m = (m.0, get_at xs m.0 x x m.1 m.2)

-- a host among hosts, by a test of each
pub member_from_test : (hosts : List (List ℕ)) (host : List ℕ) → list_any (λ h. bytes_eq h host) hosts ≡ true → Contains hosts host
member_from_test [] host h = absurd cc
member_from_test (x ∷ xs) host h =
    elim (or_cases (bytes_eq x host) (list_any (λ h. bytes_eq h host) xs) h) as (λ _. Contains (x ∷ xs) host) [
      | inl here ↦
          let P : List ℕ → Type 0 = λ y. Contains (x ∷ xs) y in
          subst P ((bytes_eq-Decides x host).0 here) (Contains-head x xs)
      | inr later ↦ Contains-behind x xs host (member_from_test xs host later)
    ]

test_from_cases : (x : List ℕ) (xs : List (List ℕ)) (host : List ℕ) → (x ≡ host) ⊎ Contains xs host
    → (Contains xs host → list_any (λ h. bytes_eq h host) xs ≡ true) → list_any (λ h. bytes_eq h host) (x ∷ xs) ≡ true
test_from_cases x xs host (inl same) f = or_left (bytes_eq x host) (list_any (λ h. bytes_eq h host) xs) ((bytes_eq-Decides x host).1 same)
test_from_cases x xs host (inr later) f = or_right (bytes_eq x host) (list_any (λ h. bytes_eq h host) xs) (f later)

pub test_from_member : (hosts : List (List ℕ)) (host : List ℕ) → Contains hosts host → list_any (λ h. bytes_eq h host) hosts ≡ true
test_from_member [] host m = absurd (no_member host m)
test_from_member (x ∷ xs) host m = test_from_cases x xs host (Contains-cases x xs host m) (test_from_member xs host)
