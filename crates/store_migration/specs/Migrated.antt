-- What an older desk is after it became one of today.
use Rattle.std.specs.Prelude.{◌≡◌, ◌≢◌, ℕ, List, [], ◌∷◌, ◌++◌, codes}
use Rattle.sqlite.specs.Schema.{Schema}
use Rattle.sqlite.specs.Table.{Table}
use Rattle.sqlite.specs.Tree.{Trees}
use Rattle.sqlite.specs.Effect.{Database, IsDatabase}
use Rattle.sqlite_rules.specs.Lists.{Has}
use Rattle.store_tables.specs.DeskTables.{verdicts_at}
use Rattle.store_tables.specs.Stored.{content_of, tree_of, with_roster}
use Rattle.store_opening.specs.Opened.{IsKept}

-- the tree is not one of an older desk's five
pub record IsBeside (s : Schema) (tree : ℕ) : Type 0 where
  pub desk : tree ≢ tree_of s (codes "desk")
  pub messages : tree ≢ tree_of s (codes "messages")
  pub names : tree ≢ tree_of s (codes "names")
  pub marks : tree ≢ tree_of s (codes "marks")
  pub parked : tree ≢ tree_of s (codes "parked")

-- each table of another name keeps its rows
abbrev pub KeepsOthers : (old new : Database) → Type 0
KeepsOthers old new = (t : Table) → Has old.schema.tables t
    → IsBeside old.schema t.tree → new.trees t.tree ≡ old.trees t.tree

-- the tables are those that were there, and `verdicts`
abbrev pub GainsVerdicts : (old new : Database) → Type 0
GainsVerdicts old new =
    (tree : ℕ) × (new.schema.tables ≡ old.schema.tables ++ verdicts_at tree ∷ [])

-- a desk of today, with this roster text and the messages that were there, beside the tables of
-- other names
pub record Migrates (roster : List ℕ) (old new : Database) : Type 0 where
  pub sound : IsDatabase new
  pub kept : IsKept new
  pub content : content_of new ≡ with_roster roster (content_of old)
  pub grown : GainsVerdicts old new
  pub others : KeepsOthers old new

-- Any database with these trees is that desk.
abbrev pub MigratesAt : List ℕ → Database → Trees → Type 0
MigratesAt roster old trees =
    (db : Database) → db.trees ≡ trees → IsDatabase db → Migrates roster old db
