-- The rows that a desk's tables have for a set of messages.
use Rattle.std.specs.Prelude.{◌≡◌, ℕ, suc, pos, Bool, if◌then◌else◌, List, [], ◌∷◌}
use Rattle.sqlite.specs.declared.types.Value.{Value}
use Rattle.sqlite.specs.declared.types.Value.TheVariants.{Int, Text}
use Rattle.sqlite.specs.Order.{Row, column}
use Rattle.sqlite_rules.specs.Lists.{Has}
use Rattle.messages.specs.Fields.{RequestFields, VerdictFields}
use Rattle.messages.specs.Names.{IsNamed, SameName, name_meant}
pub use Rattle.messages.specs.NameRows.{IsMarked}
use Rattle.messages.specs.declared.request_name.RequestName.{RequestName}
use Rattle.messages.specs.Wire.{wire, kind_text}
use Rattle.messages.specs.declared.message.Message.{Message}
use Rattle.messages.specs.declared.message.Message.TheVariants.{Request, Verdict}

-- ---- the rows of a table, as a set

-- A set of rows, each given by the values of its columns.
abbrev pub RowSet : Type 1
RowSet = List Value → Type 0

-- The table has a row with these values, after some rowid.
abbrev pub IsRow : List Row → RowSet
IsRow rows values = (id : Value) × Has rows (id ∷ values)

-- ---- what the rows say

-- asker, no, body, disputed
abbrev pub name_row : RequestFields → Bool → List Value
name_row q disputed = Text q.by ∷ Int (pos q.no) ∷ Text (wire (Request q))
    ∷ Int (if disputed then pos 1 else pos 0) ∷ []

-- asker, no, person, kind, at
abbrev pub verdict_row : VerdictFields → List Value
verdict_row v =
    Text v.of ∷ Int (pos v.no) ∷ Text v.by ∷ Text (kind_text v.kind) ∷ Int (pos v.at) ∷ []

-- body, asker, no
abbrev pub parked_row : VerdictFields → List Value
parked_row v = Text (wire (Verdict v)) ∷ Text v.of ∷ Int (pos v.no) ∷ []

-- the row is of the name: it has the asker in this column, and the number in the next
abbrev pub OfName : ℕ → RequestName → RowSet
OfName at name values =
    (column values at ≡ Text name.by) × (column values (suc at) ≡ Int (pos name.no))

-- ---- the rows of a set of messages

-- the set has a request of the name
abbrev pub Asks : (Message → Type 0) → RequestName → Type 0
Asks S name = (q : RequestFields) × S (Request q) × IsNamed q name

-- Each name with a request has one row, which has one such request and tells whether there is
-- another. Each verdict has a row: in `verdicts` if its name has a request, and in `parked` if it
-- has none.
pub record AreRows (S : Message → Type 0) (names verdicts parked : RowSet) : Type 0 where
  pub names_each : (r : List Value) → names r → (q : RequestFields) × (disputed : Bool)
      × S (Request q) × IsMarked S q disputed × (r ≡ name_row q disputed)
  pub names_all : (q : RequestFields) → S (Request q)
      → (p : RequestFields) × (disputed : Bool) × SameName p q × names (name_row p disputed)
  pub names_once : (p q : RequestFields) (a b : Bool) → SameName p q
      → names (name_row p a) → names (name_row q b) → name_row p a ≡ name_row q b
  pub verdicts_each : (r : List Value) → verdicts r
      → (v : VerdictFields) × S (Verdict v) × Asks S (name_meant v) × (r ≡ verdict_row v)
  pub verdicts_all : (v : VerdictFields) → S (Verdict v)
      → Asks S (name_meant v) → verdicts (verdict_row v)
  pub parked_each : (r : List Value) → parked r
      → (v : VerdictFields) × S (Verdict v) × (¬ Asks S (name_meant v)) × (r ≡ parked_row v)
  pub parked_all : (v : VerdictFields) → S (Verdict v)
      → (¬ Asks S (name_meant v)) → parked (parked_row v)
