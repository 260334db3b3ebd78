-- What the rows that follow from the messages show, row by row.
use Rattle.std.specs.Prelude.{◌≡◌, ◌≢◌, ⊤, List, [], ◌∷◌}
use Rattle.sqlite.specs.declared.types.Value.{Value}
use Rattle.sqlite.specs.Order.{Row}
use Rattle.messages.specs.Fields.{VerdictFields, IsVerdict}
use Rattle.messages.specs.declared.name_row.NameRow.{NameRow}
use Rattle.messages.specs.declared.message.Message.TheVariants.{Request, Verdict}
use Rattle.store_tables.specs.Rows.{name_row, parked_row, verdict_row}
use Rattle.store_tables.specs.declared.fault.Fault.{Fault}
use Rattle.store_tables.specs.declared.fault.Fault.TheVariants.{Stray}
use Rattle.store_opening.specs.private.Reading.{IsKeepable}

abbrev pub IsNoStray : Fault → Type 0
IsNoStray e = e ≢ Stray

-- the row, with its rowid, is that of a name
pub record ShowsName (r : Row) (shown : NameRow) : Type 0 where
  pub id : Value
  pub is : r ≡ id ∷ name_row shown.request shown.is_disputed
  pub keepable : IsKeepable (Request shown.request)

-- the row, with its rowid, is that of a verdict whose request is there
pub record ShowsVerdict (r : Row) (v : VerdictFields) : Type 0 where
  pub id : Value
  pub is : r ≡ id ∷ verdict_row v
  pub lawful : IsVerdict v

-- the row, with its rowid, is that of a verdict that waits
pub record ShowsParked (r : Row) (v : VerdictFields) : Type 0 where
  pub id : Value
  pub is : r ≡ id ∷ parked_row v
  pub keepable : IsKeepable (Verdict v)

-- each row shows what is at the same place in the list
abbrev pub AreShown : {X : Type 0} → (Row → X → Type 0) → List Row → List X → Type 0
AreShown Shows [] [] = ⊤
AreShown Shows [] (x ∷ xs) = ⊥
AreShown Shows (r ∷ rs) [] = ⊥
AreShown Shows (r ∷ rs) (x ∷ xs) = Shows r x × AreShown Shows rs xs
