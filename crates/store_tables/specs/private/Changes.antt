-- What a statement does to the rows of one table.
use Rattle.std.specs.Prelude.{◌≡◌, ◌⊎◌, Bool, true, false, List}
use Rattle.sqlite.specs.declared.types.Value.{Value}
use Rattle.sqlite.specs.declared.types.Value.TheVariants.{Text}
use Rattle.sqlite.specs.Order.{column}
use Rattle.messages.specs.Fields.{RequestFields, VerdictFields}
use Rattle.messages.specs.Names.{name_of}
use Rattle.messages.specs.declared.request_name.RequestName.{RequestName}
use Rattle.messages.specs.Wire.{wire, IsMessage}
use Rattle.messages.specs.declared.message.Message.TheVariants.{Verdict}
use Rattle.store_tables.specs.Rows.{RowSet, OfName, name_row, verdict_row}

-- exactly this row was added
pub record Gains (row : List Value) (old new : RowSet) : Type 0 where
  pub each : (r : List Value) → new r → old r ⊎ (r ≡ row)
  pub kept : (r : List Value) → old r → new r
  pub there : new row

-- exactly the rows with the property were removed
pub record Loses (Gone : RowSet) (old new : RowSet) : Type 0 where
  pub each : (r : List Value) → new r → old r × (¬ Gone r)
  pub kept : (r : List Value) → old r → (¬ Gone r) → new r

-- the answer tells whether some row is of the name
abbrev pub Tells : (names : RowSet) → RequestName → Bool → Type 0
Tells names name true = (r : List Value) × names r × OfName 0 name r
Tells names name false = (r : List Value) → names r → ¬ OfName 0 name r

-- The request's row replaced the row of its name, if any, and is disputed if there was one.
pub record Names (q : RequestFields) (disputed : Bool) (old new : RowSet) : Type 0 where
  pub told : Tells old (name_of q) disputed
  pub each : (r : List Value) → new r
      → (old r × (¬ OfName 0 (name_of q) r)) ⊎ (r ≡ name_row q disputed)
  pub kept : (r : List Value) → old r → (¬ OfName 0 (name_of q) r) → new r
  pub there : new (name_row q disputed)

-- the parked row has this verdict's text
abbrev pub IsOf : List Value → VerdictFields → Type 0
IsOf r v = IsMessage (Verdict v) × (column r 0 ≡ Text (wire (Verdict v)))

-- each parked verdict of the name, and no other, was added to the verdicts
pub record Joins (name : RequestName) (parked old new : RowSet) : Type 0 where
  pub each : (r : List Value) → new r → old r ⊎ ((v : VerdictFields)
      × (p : List Value) × parked p × OfName 1 name p × IsOf p v × (r ≡ verdict_row v))
  pub kept : (r : List Value) → old r → new r
  pub joined : (p : List Value) → parked p → OfName 1 name p
      → (v : VerdictFields) × IsOf p v × new (verdict_row v)
