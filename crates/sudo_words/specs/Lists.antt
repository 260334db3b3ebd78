-- Lists in order, and lists that are made part by part.
use Rattle.std.specs.Prelude.{◌≡◌, ℕ, Bool, true, List, [], ◌∷◌, ◌++◌}
use Rattle.std.specs.List.{Contains}
use Rattle.std.specs.List.Sorted.{IsStrictlySortedBy}
use Rattle.std.specs.Ordering.{nat_cmp, is_lt}
use Rattle.std.specs.declared.cmp.Ordering.{Ordering}
use Rattle.std.specs.Cmp.Lexicographic.{slice_cmp}

-- ---- orders: texts in byte order, and lists of texts by the first that differs

abbrev pub text_order : List ℕ → List ℕ → Ordering
text_order = slice_cmp nat_cmp

-- One text comes before another: where they first differ its byte is the lower one, or it is a
-- proper prefix of the other.
abbrev pub is_before : List ℕ → List ℕ → Bool
is_before low high = is_lt (text_order low high)

abbrev pub args_order : List (List ℕ) → List (List ℕ) → Ordering
args_order = slice_cmp text_order

-- a test of two elements that holds only if they are equal
abbrev pub IsExact : {X : Type 0} → (X → X → Bool) → Type 0
IsExact {X} same = (x y : X) → same x y ≡ true → x ≡ y

-- `listed` has the elements of `standing`, each once and in order, and nothing else
pub record IsEachOnce {X : Type 0} (order : X → X → Ordering)
    (standing listed : List X) : Type 0 where
  pub in_order : IsStrictlySortedBy order listed
  pub each : (x : X) → Contains standing x → Contains listed x
  pub only : (x : X) → Contains listed x → Contains standing x

-- ---- parts

-- one part for each element, in order
abbrev pub AreParts : {X Y : Type 0} → (X → List Y → Type 0) → List X → List Y → Type 0
AreParts IsPart [] ys = ys ≡ []
AreParts {X} {Y} IsPart (x ∷ xs) ys = (part : List Y) × (rest : List Y)
    × (ys ≡ part ++ rest) × IsPart x part × AreParts IsPart xs rest
