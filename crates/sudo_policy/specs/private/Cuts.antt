-- Fronts that a line is cut at, and its first token. For private clauses.
use Rattle.std.specs.Prelude.{◌≡◌, ℕ, ◌<◌, Bool, false, ◌==◌, List, [], ◌∷◌, ◌++◌, length}
use Rattle.sudo_words.specs.Bytes.{bang}
use Rattle.sudo_policy.specs.Span.{Each}
use Rattle.sudo_policy.specs.Lex.{Tok, Lexes}

abbrev pub is_bang : ℕ → Bool
is_bang b = b == bang

-- the bytes do not begin with one that passes
abbrev pub Stops : (ℕ → Bool) → List ℕ → Type 0
Stops p [] = Unit {0}
Stops p (b ∷ bs) = p b ≡ false

-- The bytes are a front that passes and a rest that does not go on with it.
pub record IsCut (p : ℕ → Bool) (bytes front rest : List ℕ) : Type 0 where
  pub whole : bytes ≡ front ++ rest
  pub each : Each p front
  pub stops : Stops p rest

-- The bytes are read as this token and then the rest, and in no other way.
pub record IsFirstToken (bytes : List ℕ) (t : Tok) (rest : List ℕ) : Type 0 where
  pub adds : (ts : List Tok) → Lexes rest ts → Lexes bytes (t ∷ ts)
  pub only : (ts : List Tok) → Lexes bytes ts
      → (more : List Tok) × (ts ≡ t ∷ more) × Lexes rest more
  pub shorter : length rest < length bytes
