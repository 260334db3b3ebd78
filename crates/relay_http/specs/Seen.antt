-- How many fields a name has, as far as it matters: none, one or more. For the program alone: no
-- promise cites it.
use Rattle.std.specs.Prelude.{◌≡◌, ℕ, List, [], ◌∷◌}
use Rattle.relay_http.specs.declared.values.Values.{Values}
use Rattle.relay_http.specs.declared.values.Values.TheVariants.{Nothing, One, Many}

-- the list is what was found
abbrev pub AreValues : Values → List (List ℕ) → Type 0
AreValues Nothing vs = vs ≡ []
AreValues (One v) vs = vs ≡ v.now ∷ []
AreValues Many vs = (a b : List ℕ) × (more : List (List ℕ)) × (vs ≡ a ∷ b ∷ more)

-- as a loop counts them
pub data Seen : Type 0 where
  nothing : Seen
  one : List ℕ → Seen
  many : Seen

abbrev pub seen_of : Values → Seen
seen_of Nothing = nothing
seen_of (One v) = one v.now
seen_of Many = many

abbrev pub one_more : Seen → List ℕ → Seen
one_more nothing v = one v
one_more (one w) v = many
one_more many v = many

abbrev pub and_all : Seen → List (List ℕ) → Seen
and_all s [] = s
and_all s (v ∷ vs) = and_all (one_more s v) vs
