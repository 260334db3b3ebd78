-- What the rows that are read say.
use Rattle.std.specs.Prelude.{◌≡◌, ◌≤◌, ◌&&◌, cond, List, [], ◌∷◌, ℕ}
use Rattle.std.specs.Prelude.{Contains, Option, None, length, map}
use Rattle.sqlite.specs.declared.types.Value.{Value}
use Rattle.sqlite.specs.declared.types.Value.TheVariants.{Text}
use Rattle.sqlite.specs.Order.{Row, column}
use Rattle.messages.specs.Wire.{wire, IsMessage}
use Rattle.messages.specs.declared.message.Message.{Message}
use Rattle.store_tables.specs.Kept.{IsKeyed}
use Rattle.store_tables.specs.Rows.{AreRows, IsRow}
use Rattle.store_tables.specs.Stored.{IsWritten, text_at}
use Rattle.store_opening.specs.private.Compare.{is_number}

-- ---- the desk's row

-- the roster's text, if there is exactly one row, and it shows the id 1, this schema and the roster
abbrev pub shown_mark : ℕ → List Row → Option (List ℕ)
shown_mark version [] = None
shown_mark version (r ∷ []) =
    cond (is_number 1 (column r 0) && is_number version (column r 1)) (text_at (column r 2)) None
shown_mark version (r ∷ s ∷ rs) = None

-- ---- the messages

-- the value is not the text of a message that is short enough to be read
abbrev pub IsForeign : Value → Type 0
IsForeign v = (text : List ℕ) → v ≡ Text text → ¬ IsWritten text

abbrev pub body : Message → Value
body m = Text (wire m)

-- a message whose text is short enough to be read: of at most 16,384 bytes
pub record IsKeepable (m : Message) : Type 0 where
  pub message : IsMessage m
  pub short : length (wire m) ≤ 16_384

-- the first columns are the texts of these messages
pub record AreBodies (rows : List Row) (messages : List Message) : Type 0 where
  pub texts : map (λ r. column r 0) rows ≡ map body messages
  pub only : (m : Message) → Contains messages m → IsKeepable m

-- one of the first columns is not the text of such a message
abbrev pub HasForeign : List Row → Type 0
HasForeign rows = (r : Row) × Contains rows r × IsForeign (column r 0)

-- ---- the rows of the other three

-- they are those of the set's messages, and each has its own rowid
pub record AreHeld (S : Message → Type 0) (N V P : List Row) : Type 0 where
  pub rows : AreRows S (IsRow N) (IsRow V) (IsRow P)
  pub names : IsKeyed N
  pub verdicts : IsKeyed V
  pub parked : IsKeyed P
