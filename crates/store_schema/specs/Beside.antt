-- The tables of other names beside a desk's.
use Rattle.std.specs.Prelude.{◌≡◌, false, List, ℕ, Option, slice_get, option_and_then}
use Rattle.sqlite.specs.Order.{Row}
use Rattle.sqlite.specs.Schema.{Schema}
use Rattle.sqlite.specs.Table.{Table}
use Rattle.sqlite.specs.Effect.{Database}
use Rattle.sqlite_rules.specs.Lists.{Has}
use Rattle.sqlite_schema.specs.Names.{table_named}
use Rattle.store_tables.specs.Stored.{is_in}
use Rattle.store_schema.specs.declared.part.DeskPart.{DeskPart}
use Rattle.store_schema.specs.Parts.{part_name}

-- the table that the schema finds by this name
abbrev pub found_as : Schema → List ℕ → Option Table
found_as s name = option_and_then (slice_get s.tables) (table_named s name)

-- the tree belongs to none of the tables of a desk, of today or older
abbrev pub IsOther : Schema → ℕ → Type 0
IsOther s tree = (part : DeskPart) → is_in (found_as s (part_name part)) tree ≡ false

-- a table, as the schema describes it, with its rows
pub record TableWithRows : Type 0 where
  pub table : Table
  pub rows : List Row

-- The database has the table, with these rows, and it is not a desk's.
pub record StandsBeside (db : Database) (it : TableWithRows) : Type 0 where
  pub there : Has db.schema.tables it.table
  pub other : IsOther db.schema it.table.tree
  pub rows : db.trees it.table.tree ≡ it.rows

-- Each table that was there beside a desk's is still there, with its rows.
abbrev pub KeepsBeside : (old new : Database) → Type 0
KeepsBeside old new = (it : TableWithRows) → StandsBeside old it → StandsBeside new it
