-- Rows of a desk's tables as they are read.
use Rattle.std.specs.Prelude.{◌≡◌, ◌⊎◌, ◌≤◌, ℕ, ℤ, List, ◌∷◌, length}
use Rattle.sqlite.specs.declared.types.Value.{Value}
use Rattle.sqlite.specs.declared.types.Value.TheVariants.{Int, Text}
use Rattle.sqlite.specs.Order.{Row}
use Rattle.sqlite_rules.specs.Lists.{Has}

-- the value is a text or a whole number
abbrev pub IsPlain : Value → Type 0
IsPlain v = ((t : List ℕ) × (v ≡ Text t)) ⊎ ((n : ℤ) × (v ≡ Int n))

-- each value is a text or a whole number, and no row has more than six
abbrev pub ArePlain : List Row → Type 0
ArePlain rows = (r : Row) → Has rows r → (length r ≤ 6) × ((v : Value) → Has r v → IsPlain v)

-- no row is empty: each has a first column, for its rowid
abbrev pub HaveRowids : List Row → Type 0
HaveRowids rows = (r : Row) → Has rows r → (id : Value) × (values : List Value) × (r ≡ id ∷ values)
