-- What a statement of a transaction does to the rows of a desk's tables.
use Rattle.std.specs.Prelude.{◌≡◌, IsTrue, false, Bool}
use Rattle.std.specs.Prelude.{if◌then◌else◌, ℕ, pos, List, [], ◌∷◌, codes}
use Rattle.std.specs.List.{list_any}
use Rattle.std.specs.FinSet as set
use Rattle.sqlite.specs.Order.{Row, column}
use Rattle.sqlite.specs.Effect.{Database, IsDatabase}
use Rattle.sqlite.specs.State.{State}
use Rattle.sqlite.specs.declared.types.Value.{Value}
use Rattle.sqlite.specs.declared.types.Value.TheVariants.{Int, Text}
use Rattle.sqlite_rules.specs.Lists.{Has}
use Rattle.messages.specs.declared.request_name.RequestName.{RequestName}
use Rattle.store_tables.specs.Rows.{RowSet, IsRow, OfName}
use Rattle.store_tables.specs.Stored.{is_stray, row_texts}
use Rattle.store_tables.specs.Kept.{IsTidy, table_in}
use Rattle.store_tables.specs.Steps.{IsInside, KeepsBut}
use Rattle.store_tables.specs.private.Changes.{Tells}

-- the connection is open, inside a transaction that goes on
pub record IsOpenInside (old new : State) : Type 0 where
  pub was_open : IsTrue old.is_open
  pub is_open : IsTrue new.is_open
  pub mode : IsTrue new.in_transaction

-- Only the rows of this table were changed, in trees that obey the schema that they list.
pub record Alters (name : List ℕ) (Rows : RowSet → RowSet → Type 0)
    (old new : Database) : Type 0 where
  pub sound : IsDatabase new
  pub schema : new.schema ≡ old.schema
  pub rows : Rows (IsRow (table_in old name)) (IsRow (table_in new name))
  pub others : KeepsBut name old new
  pub tidy : IsTidy new

-- a statement changed only the rows of this table, inside a transaction that goes on
pub record Wrote (name : List ℕ) (Rows : RowSet → RowSet → Type 0) (old new : State) : Type 0 where
  pub inside : IsInside old new
  pub alters : IsTidy old.now → Alters name Rows old.now new.now

-- The text was added to the messages.
pub record AddsText (text : List ℕ) (old new : Database) : Type 0 where
  pub sound : IsDatabase new
  pub schema : new.schema ≡ old.schema
  pub texts : row_texts (table_in new (codes "messages"))
      ≡ set.insert (row_texts (table_in old (codes "messages"))) text
  pub typed : list_any is_stray (table_in old (codes "messages")) ≡ false
      → list_any is_stray (table_in new (codes "messages")) ≡ false
  pub others : KeepsBut (codes "messages") old new
  pub tidy : IsTidy new

pub record WroteText (text : List ℕ) (old new : State) : Type 0 where
  pub inside : IsInside old new
  pub adds : IsTidy old.now → AddsText text old.now new.now

-- ---- rows

abbrev pub name_values : (asker : List ℕ) (number : ℕ) (body : List ℕ) (disputed : Bool)
    → List Value
name_values asker number body disputed =
    Text asker ∷ Int (pos number) ∷ Text body ∷ Int (if disputed then pos 1 else pos 0) ∷ []

abbrev pub verdict_values : (asker : List ℕ) (number : ℕ) (person kind : List ℕ) (at : ℕ)
    → List Value
verdict_values asker number person kind at =
    Text asker ∷ Int (pos number) ∷ Text person ∷ Text kind ∷ Int (pos at) ∷ []

abbrev pub parked_values : (body asker : List ℕ) (number : ℕ) → List Value
parked_values body asker number = Text body ∷ Text asker ∷ Int (pos number) ∷ []

-- the rows show the bodies of the parked rows of the name
pub record ShowsParked (name : RequestName) (parked : RowSet) (rows : List Row) : Type 0 where
  pub each : (x : Row) → Has rows x
      → (r : List Value) × parked r × OfName 1 name r × (x ≡ column r 0 ∷ [])
  pub all : (r : List Value) → parked r → OfName 1 name r → Has rows (column r 0 ∷ [])

-- the database is as it was, and this is whether the name has a row
pub record Finds (name : RequestName) (told : Bool) (old new : State) : Type 0 where
  pub begun : IsOpenInside old new
  pub same : IsTidy old.now → new.now ≡ old.now
  pub tells : IsTidy old.now → Tells (IsRow (table_in old.now (codes "names"))) name told

-- the database is as it was, and this is whether the messages have the text
pub record FindsText (text : List ℕ) (told : Bool) (old new : State) : Type 0 where
  pub begun : IsOpenInside old new
  pub same : IsTidy old.now → new.now ≡ old.now
  pub tells : IsTidy old.now
      → told ≡ set.contains (row_texts (table_in old.now (codes "messages"))) text

-- the database is as it was, and these show the name's parked verdicts
pub record FindsParked (name : RequestName) (rows : List Row) (old new : State) : Type 0 where
  pub begun : IsOpenInside old new
  pub same : IsTidy old.now → new.now ≡ old.now
  pub shows : IsTidy old.now → ShowsParked name (IsRow (table_in old.now (codes "parked"))) rows
