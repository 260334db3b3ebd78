-- What a schema has of a desk's tables.
use Rattle.std.specs.Prelude.{◌≡◌, ◌⊎◌, ℕ, []}
use Rattle.sqlite.specs.Schema.{Schema}
use Rattle.sqlite.specs.Table.{Table}
use Rattle.sqlite.specs.Effect.{Database}
use Rattle.store_tables.specs.Stored.{Finds, IsUnused}
use Rattle.store_schema.specs.declared.part.DeskPart.{DeskPart}
use Rattle.store_schema.specs.declared.part.DeskPart.TheVariants.{Desk, Messages, Names}
use Rattle.store_schema.specs.declared.part.DeskPart.TheVariants.{Marks, Verdicts, Parked}
use Rattle.store_schema.specs.declared.shape.Shape.{Shape}
use Rattle.store_schema.specs.declared.shape.Shape.TheVariants as shape
use Rattle.store_schema.specs.Parts.{part_name, IsPart}

-- the schema finds the table of this part, by its name and by its tree
pub record FindsPart (s : Schema) (part : DeskPart) : Type 0 where
  pub at : ℕ
  pub table : Table
  pub finds : Finds s (part_name part) at table
  pub is : IsPart part table

-- no table, view or index has the part's name
abbrev pub Lacks : Schema → DeskPart → Type 0
Lacks s part = IsUnused s (part_name part)

-- the four tables are there that a desk of today and an older one have in common
pub record HasCommon (s : Schema) : Type 0 where
  pub desk : FindsPart s Desk
  pub messages : FindsPart s Messages
  pub names : FindsPart s Names
  pub parked : FindsPart s Parked

-- none of the names of a desk's tables is used
pub record IsVacant (s : Schema) : Type 0 where
  pub desk : Lacks s Desk
  pub messages : Lacks s Messages
  pub names : Lacks s Names
  pub marks : Lacks s Marks
  pub verdicts : Lacks s Verdicts
  pub parked : Lacks s Parked

-- a desk of today
pub record IsCurrent (s : Schema) : Type 0 where
  pub common : HasCommon s
  pub verdicts : FindsPart s Verdicts
  pub marks : Lacks s Marks

-- a desk of today that was an older one
pub record IsMigrated (s : Schema) : Type 0 where
  pub common : HasCommon s
  pub verdicts : FindsPart s Verdicts
  pub marks : FindsPart s Marks

-- an older desk
pub record IsOld (s : Schema) : Type 0 where
  pub common : HasCommon s
  pub verdicts : Lacks s Verdicts
  pub marks : FindsPart s Marks

-- the shape is that of the schema
abbrev pub IsShape : Schema → Shape → Type 0
IsShape s shape.Free = IsVacant s
IsShape s shape.Desk = IsCurrent s
IsShape s shape.Migrated = IsMigrated s
IsShape s shape.Old = IsOld s
IsShape s shape.Other = (¬ IsVacant s) × (¬ IsCurrent s) × (¬ IsMigrated s) × (¬ IsOld s)

-- an older desk's `marks` is there, and has no row
pub record HasEmptyMarks (db : Database) : Type 0 where
  pub marks : FindsPart db.schema Marks
  pub empty : db.trees marks.table.tree ≡ []

-- `marks` is missing, or has no row
abbrev pub IsUnmarked : Database → Type 0
IsUnmarked db = Lacks db.schema Marks ⊎ HasEmptyMarks db
