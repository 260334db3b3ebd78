-- Bytes that are compared with a text, piece by piece. For private clauses.
use Rattle.std.specs.Prelude.{◌≡◌, ℕ, List, ◌++◌, Option, Some, option_map}
use denote.Ref.{Bor}

-- `None` if some byte differed, and else what is left
abbrev pub left_of : Option (Bor (List ℕ)) → Option (List ℕ)
left_of rest = option_map (λ r. r.now) rest

-- What is left after a piece: some bytes are left now exactly if the piece and then these bytes
-- were left before.
pub record IsPast (piece : List ℕ) (old new : Option (Bor (List ℕ))) : Type 0 where
  pub found : (left : List ℕ) → left_of new ≡ Some left → left_of old ≡ Some (piece ++ left)
  pub only : (left : List ℕ) → left_of old ≡ Some (piece ++ left) → left_of new ≡ Some left
