-- What the transaction that moves an older desk does to its tables.
use Rattle.std.specs.Prelude.{◌≡◌, ◌≢◌, IsTrue, List, ℕ, [], ◌∷◌, codes}
use Rattle.std.specs.List.{AllByRecursion}
use Rattle.sqlite.specs.Table.{Table}
use Rattle.sqlite.specs.Effect.{Database}
use Rattle.sqlite.specs.State.{State}
use Rattle.sqlite_rules.specs.Lists.{Has}
use Rattle.messages.specs.declared.message.Message.{Message}
use Rattle.store_tables.specs.Kept.{HoldsText, IsForeign, IsTidy, table_in}
use Rattle.store_tables.specs.Sets.{Lists}
use Rattle.store_tables.specs.Stored.{tree_of}
use Rattle.store_schema.specs.declared.part.DeskPart.{DeskPart}
use Rattle.store_schema.specs.declared.part.DeskPart.TheVariants.{Desk, Names, Marks, Parked}
use Rattle.store_schema.specs.Migratable.{IsMigratable}
use Rattle.store_schema.specs.Parts.{part_name}
use Rattle.store_schema.specs.Shapes.{HasEmptyMarks, IsOld}
use Rattle.store_opening.specs.Opened.{IsOldDesk}
use Rattle.store_migration.specs.Migrated.{GainsVerdicts, IsBeside, KeepsOthers, Migrates}

-- These parts' tables have no row, and each other table keeps its own.
pub record Empties (done : List DeskPart) (old new : Database) : Type 0 where
  pub schema : new.schema ≡ old.schema
  pub empty : AllByRecursion (λ part. table_in new (part_name part) ≡ []) done
  pub others : (t : Table) → Has old.schema.tables t
      → AllByRecursion (λ part. t.tree ≢ tree_of old.schema (part_name part)) done
      → new.trees t.tree ≡ old.trees t.tree

-- all tables of an older desk but its messages
abbrev pub EmptiesAll : Database → Database → Type 0
EmptiesAll = Empties (Desk ∷ Marks ∷ Parked ∷ Names ∷ [])

pub record Emptied (old new : State) : Type 0 where
  pub was_open : IsTrue old.is_open
  pub mode : IsTrue new.in_transaction
  pub empties : IsOld old.now.schema → IsMigratable old.now.schema → EmptiesAll old.now new.now

-- The tables are those of a desk of today, and have no rows but the messages that were there.
pub record Prepares (old new : Database) : Type 0 where
  pub tidy : IsTidy new
  pub desk : table_in new (codes "desk") ≡ []
  pub names : table_in new (codes "names") ≡ []
  pub verdicts : table_in new (codes "verdicts") ≡ []
  pub parked : table_in new (codes "parked") ≡ []
  pub marks : HasEmptyMarks new
  pub messages : table_in new (codes "messages") ≡ table_in old (codes "messages")
  pub grown : GainsVerdicts old new
  pub others : KeepsOthers old new
  pub foreign : (t : Table) → Has old.schema.tables t
      → IsBeside old.schema t.tree → IsForeign new.schema t.tree

pub record Prepared (old new : State) : Type 0 where
  pub was_open : IsTrue old.is_open
  pub mode : IsTrue new.in_transaction
  pub prepares : IsOld old.now.schema → IsMigratable old.now.schema → Prepares old.now new.now

-- The older desk became one of today, if these are its messages.
pub record Moved (roster : List ℕ) (messages : List Message) (old new : State) : Type 0 where
  pub was_open : IsTrue old.is_open
  pub mode : IsTrue new.in_transaction
  pub migrates : IsOldDesk old.now → IsMigratable old.now.schema
      → Lists (HoldsText old.now) messages → Migrates roster old.now new.now
