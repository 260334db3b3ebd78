-- When an older desk can become one of today.
use Rattle.std.specs.Prelude.{◌≡◌, false, codes}
use Rattle.sqlite.specs.Schema.{Schema}
use Rattle.sqlite.specs.Does.{lacks_sequence}
use Rattle.store_tables.specs.Stored.{IsUnreferred, tree_of}
use Rattle.store_schema.specs.Ready.{is_parent}

-- No foreign key refers to the tables that lose rows, or waits for `verdicts`; and where a table
-- counts by AUTOINCREMENT, the table of the counts is there.
pub record IsMigratable (s : Schema) : Type 0 where
  pub desk : IsUnreferred s (tree_of s (codes "desk"))
  pub names : IsUnreferred s (tree_of s (codes "names"))
  pub marks : IsUnreferred s (tree_of s (codes "marks"))
  pub parked : IsUnreferred s (tree_of s (codes "parked"))
  pub verdicts : is_parent s (codes "verdicts") ≡ false
  pub counted : lacks_sequence s ≡ false
