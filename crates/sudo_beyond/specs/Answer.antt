-- What is answered for two policies: the first case that lies beyond, or that none does; or that
-- there are too many cases.
use Rattle.std.specs.Prelude.{◌≡◌, ℕ, ◌<◌, ◌≤◌, List, ◌∷◌, ◌++◌, Option, Some, None}
use Rattle.std.specs.List.{AllByRecursion}
use Rattle.sudo_policy.specs.declared.entry.Entry.{Entry}
use Rattle.sudo_decide.specs.declared.invocation.Invocation.{Invocation}
use Rattle.sudo_decide.specs.declared.scope.Scope.{Scope}
use Rattle.sudo_beyond.specs.declared.cases.Cases.{Cases}
use Rattle.sudo_beyond.specs.Beyond.{IsGap}
use Rattle.sudo_beyond.specs.Cases.{AreCases, product, invocations}

-- P holds of x, and of no element before it in the list
pub record IsFirstWith {X : Type 0} (P : X → Type 0) (xs : List X) (x : X) : Type 0 where
  pub before : List X
  pub after : List X
  pub list_is : xs ≡ before ++ x ∷ after
  pub here : P x
  pub none_before : AllByRecursion (λ y. P y → ⊥) before

-- the first element of the list for which P holds, or None if there is none
abbrev pub FirstOf : {X : Type 0} → (X → Type 0) → List X → Option X → Type 0
FirstOf P xs None = AllByRecursion (λ x. P x → ⊥) xs
FirstOf P xs (Some x) = IsFirstWith P xs x

-- the most cases that are tried
abbrev pub most_cases : ℕ
most_cases = 1_000_000

-- there are at most so many cases, and this is the first of them that a allows and b refuses
pub record IsFirstBeyond (s : Scope) (a b : List Entry) (found : Option Invocation) : Type 0 where
  pub cases : Cases
  pub are_cases : AreCases s a b cases
  pub few : product cases ≤ most_cases
  pub first : FirstOf (IsGap a b) (invocations cases) found

-- there are at most so many cases
pub record AreFew (s : Scope) (a b : List Entry) : Type 0 where
  pub cases : Cases
  pub are_cases : AreCases s a b cases
  pub few : product cases ≤ most_cases

-- there are more
pub record AreTooMany (s : Scope) (a b : List Entry) : Type 0 where
  pub cases : Cases
  pub are_cases : AreCases s a b cases
  pub many : most_cases < product cases
