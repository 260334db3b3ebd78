-- When a desk can be made in a database.
use Rattle.std.specs.Prelude.{◌≡◌, Bool, false, List, ℕ, [], ◌∷◌}
use Rattle.std.specs.List.{AllByRecursion, list_any}
use Rattle.sqlite.specs.Schema.{Schema}
use Rattle.sqlite.specs.Table.{Table}
use Rattle.sqlite.specs.Does.{lacks_sequence}
use Rattle.sqlite_schema.specs.Names.{same_name}
use Rattle.store_schema.specs.declared.part.DeskPart.{DeskPart}
use Rattle.store_schema.specs.declared.part.DeskPart.TheVariants.{Desk, Messages, Names}
use Rattle.store_schema.specs.declared.part.DeskPart.TheVariants.{Marks, Verdicts, Parked}
use Rattle.store_schema.specs.Parts.{part_name}
use Rattle.store_schema.specs.Shapes.{Lacks}

-- a foreign key of some table names this as its parent
abbrev pub is_parent : Schema → List ℕ → Bool
is_parent s name =
    list_any (λ (t : Table). list_any (λ ref. same_name name ref.parent) t.references) s.tables

-- the name of the part is unused, and no foreign key names it
pub record IsOpen (s : Schema) (part : DeskPart) : Type 0 where
  pub lacks : Lacks s part
  pub unnamed : is_parent s (part_name part) ≡ false

-- The names of a desk's tables are free, no foreign key waits for them, and where a table counts by
-- AUTOINCREMENT, the table of the counts is there.
pub record IsReady (s : Schema) : Type 0 where
  pub vacant : AllByRecursion (IsOpen s) (Desk ∷ Messages ∷ Names ∷ Verdicts ∷ Parked ∷ Marks ∷ [])
  pub counted : lacks_sequence s ≡ false
