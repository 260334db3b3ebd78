-- What the reader makes of a line of the text. For private clauses.
use Rattle.std.specs.Prelude.{ℕ, List}
use Rattle.sudo_policy.specs.Lines.{IsBody, IsContinued}
use Rattle.sudo_syntax.specs.declared.pieces.Piece.{Piece}
use Rattle.sudo_syntax.specs.declared.pieces.Piece.TheVariants as pieces

abbrev pub IsPiece : List ℕ → Piece → Type 0
IsPiece line (pieces.Ends body) = IsBody line body.now
IsPiece line (pieces.GoesOn front) = IsContinued line front.now
