-- The members of a list and of its image; and what comes after all others in an ordered list.
use Rattle.std.proofs.Common.{◌≡◌, List, [], ◌∷◌, ◌++◌, map, subst, inl, inr}
use Rattle.std.specs.List.{Contains}
use Rattle.std.proofs.lemmas.List.Elements.{Contains-push, Contains-push_cases}
use Rattle.messages.specs.Order.{AreInOrder}
use Rattle.outcomes.proofs.Membership.{no_member, Contains-head, Contains-behind, Contains-cases}
use Rattle.outcomes.proofs.Orders.{behind_each, ordered_both}

pub to_mapped : {X Y : Type 0} (f : X → Y) (xs : List X) (x : X) → Contains xs x → Contains (map f xs) (f x)
to_mapped f [] x m = absurd (no_member x m)
to_mapped {X} f (y ∷ xs) x m =
    elim (Contains-cases y xs x m) as (λ _. Contains (map f (y ∷ xs)) (f x)) [
      | inl same ↦ subst (λ (z : X). Contains (map f (y ∷ xs)) (f z)) same (Contains-head (f y) (map f xs))
      | inr later ↦ Contains-behind (f y) (map f xs) (f x) (to_mapped f xs x later)
    ]

pub from_mapped : {X Y : Type 0} (f : X → Y) (xs : List X) (y : Y) → Contains (map f xs) y → (x : X) × Contains xs x × (f x ≡ y)
from_mapped f [] y m = absurd (no_member y m)
from_mapped {X} f (x ∷ xs) y m =
    elim (Contains-cases (f x) (map f xs) y m) as (λ _. (z : X) × Contains (x ∷ xs) z × (f z ≡ y)) [
      | inl same ↦ (x, Contains-head x xs, same)
      | inr later ↦ let found = from_mapped f xs y later in (found.0, Contains-behind x xs found.0 found.1, found.2)
    ]

-- an ordered list stays in order if something is added that comes after each of its members
pub pushed_in_order : {X : Type 0} (P : X → X → Type 0) (xs : List X) (x : X)
    → AreInOrder P xs → ((y : X) → Contains xs y → P y x) → AreInOrder P (xs ++ x ∷ [])
pushed_in_order {X} P xs x ordered before =
    ordered_both P xs (x ∷ []) ordered (tt, tt) (λ y z among last.
    elim (Contains-push_cases [] x z last) as (λ _. P y z) [
      | inl none ↦ absurd (no_member z none)
      | inr same ↦ subst (P y) same (before y among)
    ])

-- and the last of an ordered list comes after each before it
pub last_behind : {X : Type 0} (P : X → X → Type 0) (xs : List X) (y : X) → AreInOrder P (xs ++ y ∷ []) → (x : X) → Contains xs x → P x y
last_behind P [] y o x m = absurd (no_member x m)
last_behind {X} P (z ∷ xs) y o x m =
    elim (Contains-cases z xs x m) as (λ _. P x y) [
      | inl same ↦ subst (λ (w : X). P w y) same (behind_each P z (xs ++ y ∷ []) o.0 y (Contains-push xs y))
      | inr later ↦ last_behind P xs y o.1 x later
    ]
