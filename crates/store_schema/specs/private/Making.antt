-- What the statements that make a desk do to a connection.
use Rattle.std.specs.Prelude.{◌≡◌, ◌+◌, ◌++◌, IsTrue}
use Rattle.std.specs.Prelude.{ℕ, false, List, [], ◌∷◌, None, codes}
use Rattle.std.specs.List.{AllByRecursion, position_from}
use Rattle.sqlite.specs.Table.{Table}
use Rattle.sqlite.specs.Change.{KeepsRows}
use Rattle.sqlite_catalog.specs.Change.{automatics}
use Rattle.sqlite.specs.Does.{lacks_sequence}
use Rattle.sqlite.specs.State.{State}
use Rattle.sqlite.specs.Effect.{Database}
use Rattle.sqlite_schema.specs.Names.{same_name}
use Rattle.store_tables.specs.Stored.{IsUnreferred}
use Rattle.store_schema.specs.declared.part.DeskPart.{DeskPart}
use Rattle.store_schema.specs.declared.part.DeskPart.TheVariants.{Desk, Messages, Names}
use Rattle.store_schema.specs.declared.part.DeskPart.TheVariants.{Marks, Verdicts, Parked}
use Rattle.store_schema.specs.Beside.{KeepsBeside}
use Rattle.store_schema.specs.Founding.{Founds}
use Rattle.store_schema.specs.Shapes.{FindsPart}
use Rattle.store_schema.specs.Parts.{part_name, table_at}
use Rattle.store_schema.specs.Ready.{IsOpen, IsReady}

-- the statement that makes the table
abbrev pub text_of : DeskPart → List ℕ
text_of Desk =
    codes "CREATE TABLE desk (id INTEGER PRIMARY KEY, schema INTEGER NOT NULL, roster TEXT NOT NULL) STRICT"
text_of Messages = codes "CREATE TABLE messages (body TEXT PRIMARY KEY NOT NULL) STRICT"
text_of Names =
    codes "CREATE TABLE names (asker TEXT NOT NULL, no INTEGER NOT NULL, body TEXT NOT NULL, disputed INTEGER NOT NULL, PRIMARY KEY (asker, no)) STRICT"
text_of Marks =
    codes "CREATE TABLE marks (asker TEXT NOT NULL, no INTEGER NOT NULL, person TEXT NOT NULL, kind TEXT NOT NULL, at INTEGER NOT NULL, PRIMARY KEY (asker, no, person, kind)) STRICT"
text_of Verdicts =
    codes "CREATE TABLE verdicts (asker TEXT NOT NULL, no INTEGER NOT NULL, person TEXT NOT NULL, kind TEXT NOT NULL, at INTEGER NOT NULL, PRIMARY KEY (asker, no, person, kind, at)) STRICT"
text_of Parked =
    codes "CREATE TABLE parked (body TEXT PRIMARY KEY NOT NULL, asker TEXT NOT NULL, no INTEGER NOT NULL) STRICT"

-- the part's table is there, and has no row, and no foreign key refers to it
pub record HasEmpty (db : Database) (part : DeskPart) : Type 0 where
  pub found : FindsPart db.schema part
  pub empty : db.trees found.table.tree ≡ []
  pub alone : IsUnreferred db.schema found.table.tree

-- the first parts were made, the rest is still open; the tables that were there keep their rows
pub record Grows (made rest : List DeskPart) (old new : Database) : Type 0 where
  pub has : AllByRecursion (HasEmpty new) made
  pub open' : AllByRecursion (IsOpen new.schema) rest
  pub counted : lacks_sequence new.schema ≡ false
  pub kept : KeepsRows old.schema.tables old.trees new.trees
  pub more : List Table
  pub tables : new.schema.tables ≡ old.schema.tables ++ more

-- all five tables were made
abbrev pub GrowsWhole : Database → Database → Type 0
GrowsWhole = Grows (Parked ∷ Verdicts ∷ Names ∷ Messages ∷ Desk ∷ []) (Marks ∷ [])

pub record GrownWhole (old new : State) : Type 0 where
  pub was_open : IsTrue old.is_open
  pub mode : IsTrue new.in_transaction
  pub grows : IsReady old.now.schema → GrowsWhole old.now new.now

pub record Filled (roster : List ℕ) (old new : State) : Type 0 where
  pub was_open : IsTrue old.is_open
  pub mode : IsTrue new.in_transaction
  pub founds : IsReady old.now.schema → Founds roster old.now new.now
  pub beside : IsReady old.now.schema → KeepsBeside old.now new.now

-- the name of the other part is not that of this one, nor of an index that SQLite makes for it
pub record Differs (part other : DeskPart) : Type 0 where
  pub table : same_name (part_name part) (part_name other) ≡ false
  pub index : (tree k : ℕ) → position_from (λ i. same_name i.name (part_name other)) k
      (automatics (table_at part tree) 0 (tree + 1) (table_at part tree).uniques) ≡ None
