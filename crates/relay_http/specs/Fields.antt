-- The fields of a head (RFC 9110, section 5): each is its name and its value without the blanks
-- around it.
use Rattle.std.specs.Prelude.{ℕ, List, [], ◌∷◌, Bool, false, true, ◌==◌, if◌then◌else◌}
use Rattle.std.specs.Str.{str_eq_ignore_ascii_case}

abbrev pub Fields : Type 0
Fields = List (List ℕ × List ℕ)

-- the values of the fields of this name in their order; a name's case does not count (RFC 9110,
-- section 5.1)
abbrev pub values : List ℕ → Fields → List (List ℕ)
values name [] = []
values name (f ∷ fs) =
    if str_eq_ignore_ascii_case f.0 name then f.1 ∷ values name fs else values name fs

-- a head of HTTP/1.1 without a Host field, or any head with more than one (RFC 9112, section 3.2)
abbrev pub is_bad_host : (minor : ℕ) → (hosts : List (List ℕ)) → Bool
is_bad_host minor [] = minor == 1
is_bad_host minor (host ∷ []) = false
is_bad_host minor (host ∷ other ∷ more) = true
