-- Foreign keys that refer to a desk's tables.
use Rattle.std.specs.Prelude.{codes}
use Rattle.sqlite.specs.Schema.{Schema}
use Rattle.store_tables.specs.Stored.{IsUnreferred, tree_of}

-- no foreign key refers to a desk's tables that lose rows
pub record AreUnreferred (s : Schema) : Type 0 where
  pub desk : IsUnreferred s (tree_of s (codes "desk"))
  pub names : IsUnreferred s (tree_of s (codes "names"))
  pub verdicts : IsUnreferred s (tree_of s (codes "verdicts"))
  pub parked : IsUnreferred s (tree_of s (codes "parked"))
