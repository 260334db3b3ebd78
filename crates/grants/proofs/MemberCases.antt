-- A member of a list is its first element or one after it.
use Rattle.std.proofs.Common.{◌≡◌, ◌⊎◌, List, [], ◌∷◌, inl, inr, arith}
use Rattle.std.specs.List.{Contains}
use Rattle.std.proofs.lemmas.List.Elements.{Contains-append_cases, Contains-push_cases}

pub nothing_there : {X : Type 0} (x : X) → Contains [] x → ⊥
nothing_there x m = omega (arith, m.1)

pub cases_behind : {X : Type 0} (y : X) (ys : List X) (x : X) → Contains (y ∷ ys) x → (y ≡ x) ⊎ Contains ys x
cases_behind y ys x m =
    elim (Contains-append_cases (y ∷ []) ys x m) as (λ _. (y ≡ x) ⊎ Contains ys x) [
      | inl here ↦ elim (Contains-push_cases [] y x here) as (λ _. (y ≡ x) ⊎ Contains ys x) [ inl none ↦ absurd (nothing_there x none) | inr same ↦ inl same ]
      | inr there ↦ inr there
    ]

pub head_is : {X : Type 0} (y x : X) → Contains (y ∷ []) x → y ≡ x
head_is y x m =
    elim (cases_behind y [] x m) as (λ _. y ≡ x) [ inl same ↦ same | inr none ↦ absurd (nothing_there x none) ]
