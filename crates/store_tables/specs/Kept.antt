-- What a database keeps of a desk, with the rows that stand for its messages.
use Rattle.std.specs.Prelude.{◌≡◌, ◌≢◌, ⊤, true, false, List, ℕ, codes, Some, IsUtf8}
use Rattle.std.specs.List.{list_any}
use Rattle.std.specs.FinSet as set
use Rattle.sqlite.specs.declared.types.Value.{Value}
use Rattle.sqlite.specs.declared.types.Value.TheVariants.{Real}
use Rattle.sqlite.specs.Order.{Row, column}
use Rattle.sqlite.specs.Tree.{rowid}
use Rattle.sqlite.specs.View.{is_int}
use Rattle.sqlite.specs.Effect.{Database}
use Rattle.sqlite.specs.Schema.{Schema}
use Rattle.sqlite.specs.Table.{Table}
use Rattle.sqlite.specs.Tree.{Trees}
use Rattle.sqlite_rules.specs.Lists.{Has}
use Rattle.messages.specs.Wire.{wire, IsMessage}
use Rattle.messages.specs.declared.message.Message.{Message}
use Rattle.store_tables.specs.Rows.{AreRows, IsRow}
use Rattle.store_tables.specs.Stored.{HasDesk, IsWritten, Texts, content_of}
use Rattle.store_tables.specs.Stored.{has, is_stray, recorded, tree_of}

-- the rows of the table of this name
abbrev pub table_in : Database → List ℕ → List Row
table_in db name = db.trees (tree_of db.schema name)

-- ---- tables that lose rows

-- the rowids are whole numbers, and none comes twice
pub record IsKeyed (rows : List Row) : Type 0 where
  pub ints : (r : Row) → Has rows r → is_int (rowid r) ≡ true
  pub once : (a b : Row) → Has rows a → Has rows b → rowid a ≡ rowid b → a ≡ b

-- the value is not a floating-point number
abbrev pub IsNoReal : Value → Type 0
IsNoReal (Real x) = ⊥
IsNoReal _ = ⊤

-- the rows are told apart by their rowids, and none has a floating-point number in this column,
-- which holds the number of a request
pub record IsNeat (at : ℕ) (rows : List Row) : Type 0 where
  pub keyed : IsKeyed rows
  pub whole : (r : List Value) → IsRow rows r → IsNoReal (column r at)

-- A desk's tables are there, and rows can be deleted from those that lose rows.
pub record IsTidy (db : Database) : Type 0 where
  pub desk : HasDesk db.schema
  pub names : IsNeat 1 (table_in db (codes "names"))
  pub verdicts : IsKeyed (table_in db (codes "verdicts"))
  pub parked : IsNeat 2 (table_in db (codes "parked"))

-- ---- the tables of other names

-- the tree is not one of a desk's five
pub record IsForeign (s : Schema) (tree : ℕ) : Type 0 where
  pub desk : tree ≢ tree_of s (codes "desk")
  pub messages : tree ≢ tree_of s (codes "messages")
  pub names : tree ≢ tree_of s (codes "names")
  pub verdicts : tree ≢ tree_of s (codes "verdicts")
  pub parked : tree ≢ tree_of s (codes "parked")

-- each table of another name keeps its rows
abbrev pub KeepsForeign : Schema → (old new : Trees) → Type 0
KeepsForeign s old new = (t : Table) → Has s.tables t → IsForeign s t.tree → new t.tree ≡ old t.tree

-- the schema is as it was, and each table of another name keeps its rows
pub record Spares (old new : Database) : Type 0 where
  pub schema : new.schema ≡ old.schema
  pub foreign : KeepsForeign old.schema old.trees new.trees

-- ---- the desk

-- the text of the message is one of these
abbrev pub Holds : Texts → Message → Type 0
Holds texts m = IsMessage m × (set.contains texts (wire m) ≡ true)

-- the rows of the three tables are those of the messages with these texts
abbrev pub HasRows : Texts → Database → Type 0
HasRows texts db = AreRows (Holds texts) (IsRow (table_in db (codes "names")))
    (IsRow (table_in db (codes "verdicts"))) (IsRow (table_in db (codes "parked")))

-- A desk is kept: its tables are there, `desk` has its one row with a roster's text, `messages` has
-- only texts of messages, and the other three tables have the rows of these.
pub record IsDeskDatabase (db : Database) : Type 0 where
  pub tidy : IsTidy db
  pub marked : (text : List ℕ) × (recorded (table_in db (codes "desk")) ≡ Some text) × IsUtf8 text
  pub texts : list_any is_stray (table_in db (codes "messages")) ≡ false
  pub only : (text : List ℕ) → has (content_of db) text ≡ true → IsWritten text
  pub rows : HasRows (content_of db).texts db

-- the message's text is one of the desk's
abbrev pub HoldsText : Database → Message → Type 0
HoldsText db = Holds (content_of db).texts
