-- Making a desk: a table is added, and a desk is there with its roster text and no message.
use Rattle.std.specs.Prelude.{◌≡◌, ◌^◌, nat_le, false, List, ℕ, []}
use Rattle.std.specs.FinSet as set
use Rattle.sqlite.specs.Table.{Table}
use Rattle.sqlite.specs.Tree.{Trees}
use Rattle.sqlite.specs.Change.{created, next_tree, KeepsRows}
use Rattle.sqlite.specs.Does.{lacks_sequence}
use Rattle.sqlite.specs.Effect.{Database, IsDatabase}
use Rattle.sqlite.specs.State.{State}
use Rattle.store_tables.specs.Stored.{Content, content_of}
use Rattle.store_tables.specs.Kept.{IsDeskDatabase}
use Rattle.store_tables.specs.Steps.{IsInside}
use Rattle.store_schema.specs.declared.part.DeskPart.{DeskPart}
use Rattle.store_schema.specs.declared.part.DeskPart.TheVariants.{Marks}
use Rattle.store_schema.specs.Parts.{table_at}
use Rattle.store_schema.specs.Shapes.{Lacks}

-- The table was added, in a tree that is stored, and it is empty; those that were there keep their
-- rows.
pub record Adds (table : Table) (old new : Database) : Type 0 where
  pub schema : new.schema ≡ created old.schema table
  pub stored : nat_le (2 ^ 31) (next_tree old.schema) ≡ false
  pub empty : new.trees (next_tree old.schema) ≡ []
  pub others : KeepsRows old.schema.tables old.trees new.trees

pub record AddsPart (part : DeskPart) (old new : State) : Type 0 where
  pub inside : IsInside old new
  pub adds : Lacks old.now.schema part → lacks_sequence old.now.schema ≡ false
      → Adds (table_at part 0) old.now new.now

-- a desk with this roster text and no message
abbrev pub fresh : List ℕ → Content
fresh roster = record { roster = roster; texts = set.empty }

-- a desk with the roster text and no message was made, in trees that obey the schema that they list
pub record Makes (roster : List ℕ) (new : Database) : Type 0 where
  pub sound : IsDatabase new
  pub desk : IsDeskDatabase new
  pub marks : Lacks new.schema Marks
  pub content : content_of new ≡ fresh roster

-- The desk was made, and the tables that were there keep their rows.
pub record Founds (roster : List ℕ) (old new : Database) : Type 0 where
  pub makes : Makes roster new
  pub kept : KeepsRows old.schema.tables old.trees new.trees

-- Any database with these trees is a desk with the roster text and no message, beside the tables
-- that were there.
abbrev pub FoundsAt : List ℕ → Database → Trees → Type 0
FoundsAt roster old trees =
    (db : Database) → db.trees ≡ trees → IsDatabase db → Founds roster old db
