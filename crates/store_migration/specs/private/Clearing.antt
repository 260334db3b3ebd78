-- What the statements that empty a table do.
use Rattle.std.specs.Prelude.{◌≡◌, IsTrue, List, ℕ, [], codes}
use Rattle.sqlite.specs.Order.{Row}
use Rattle.sqlite.specs.Effect.{Database}
use Rattle.sqlite.specs.State.{State}
use Rattle.store_tables.specs.Kept.{table_in}
use Rattle.store_tables.specs.Stored.{IsUnreferred, tree_of}
use Rattle.store_tables.specs.Steps.{IsInside, KeepsBut}
use Rattle.store_schema.specs.declared.part.DeskPart.{DeskPart}
use Rattle.store_schema.specs.declared.part.DeskPart.TheVariants.{Desk, Messages, Names}
use Rattle.store_schema.specs.declared.part.DeskPart.TheVariants.{Marks, Verdicts, Parked}
use Rattle.store_schema.specs.Parts.{part_name}
use Rattle.store_schema.specs.Shapes.{FindsPart}
use Rattle.store_opening.specs.private.Selecting.{ShowsPart}

-- the statement that deletes all rows of the table
abbrev pub delete_of : DeskPart → List ℕ
delete_of Desk = codes "DELETE FROM desk"
delete_of Messages = codes "DELETE FROM messages"
delete_of Names = codes "DELETE FROM names"
delete_of Marks = codes "DELETE FROM marks"
delete_of Verdicts = codes "DELETE FROM verdicts"
delete_of Parked = codes "DELETE FROM parked"

-- only rows of this table may be gone
pub record Deletes (part : DeskPart) (old new : Database) : Type 0 where
  pub schema : new.schema ≡ old.schema
  pub others : KeepsBut (part_name part) old new

pub record Deleted (part : DeskPart) (old new : State) : Type 0 where
  pub inside : IsInside old new
  pub deletes : FindsPart old.now.schema part
      → IsUnreferred old.now.schema (tree_of old.now.schema (part_name part))
      → Deletes part old.now new.now

-- the database is as it was, and these show the part's rows
pub record Left (part : DeskPart) (rows : List Row) (old new : State) : Type 0 where
  pub mode : IsTrue new.in_transaction
  pub same : FindsPart old.now.schema part → new.now ≡ old.now
  pub shows : FindsPart old.now.schema part → ShowsPart part old.now rows

-- This table has no row, and each other table keeps its own.
pub record Clears (part : DeskPart) (old new : Database) : Type 0 where
  pub schema : new.schema ≡ old.schema
  pub empty : table_in new (part_name part) ≡ []
  pub others : KeepsBut (part_name part) old new

pub record Cleared (part : DeskPart) (old new : State) : Type 0 where
  pub was_open : IsTrue old.is_open
  pub mode : IsTrue new.in_transaction
  pub clears : FindsPart old.now.schema part
      → IsUnreferred old.now.schema (tree_of old.now.schema (part_name part))
      → Clears part old.now new.now
