-- The steps of a transaction: what each keeps, and what those do that fill the tables.
use Rattle.std.specs.Prelude.{◌≡◌, ◌≢◌, map, Some, IsTrue, true, List, ℕ, [], codes}
use Rattle.std.specs.List.{AllByRecursion}
use Rattle.std.specs.FinSet as set
use Rattle.sqlite.specs.Order.{Row}
use Rattle.sqlite.specs.Table.{Table}
use Rattle.sqlite.specs.Effect.{Database, IsDatabase}
use Rattle.sqlite.specs.Held.{state}
use Rattle.sqlite.specs.State.{HasCleanDisk, KeepsCommit, State, Shows, Survives}
use Rattle.sqlite.specs.declared.transaction.Transaction.{Transaction}
use Rattle.sqlite_trees.specs.declared.store.Store.{Ghosts}
use Rattle.messages.specs.Wire.{wire}
use Rattle.messages.specs.declared.message.Message.{Message}
use Rattle.store_tables.specs.Stored.{Texts, recorded, tree_of}
use Rattle.store_tables.specs.Kept.{HasRows, IsTidy, Spares, table_in}

-- The step commits nothing, so a crash leaves what it left before.
pub record IsStep (old new : State) : Type 0 where
  pub survives : Survives old new (λ _. ⊥)
  pub kept : HasCleanDisk new → IsTrue old.in_transaction → KeepsCommit old new

-- A transaction takes a step: it keeps its connection, and commits nothing.
pub record TakesStep {S : Type 0} (g : Ghosts S) (old new : Transaction S) : Type 0 where
  pub same_reference : new.conn.ghost_name ≡ old.conn.ghost_name
  pub states : IsStep (state g old.conn.now) (state g new.conn.now)

-- `Does` relates the states before and after a step of a transaction, if the disk is honest
abbrev pub InStep : (old new : State) → (State → State → Type 0) → Type 0
InStep old new Does = HasCleanDisk new → IsTrue old.in_transaction → Does old new

-- inside a transaction, which goes on
abbrev pub IsInside : State → State → Type 0
IsInside old new = Shows old new new.now old.committed true

-- each table but this one keeps its rows
abbrev pub KeepsBut : List ℕ → Database → Database → Type 0
KeepsBut name old new = AllByRecursion (λ (t : Table). t.tree ≢ tree_of old.schema name
    → new.trees t.tree ≡ old.trees t.tree) old.schema.tables

-- Only the rows of `desk` were changed, and `Row'` holds for them.
pub record Marks (Row' : List Row → Type 0) (old new : Database) : Type 0 where
  pub sound : IsDatabase new
  pub schema : new.schema ≡ old.schema
  pub row : Row' (table_in new (codes "desk"))
  pub others : KeepsBut (codes "desk") old new
  pub tidy : IsTidy new

pub record Marked (Needs Row' : List Row → Type 0) (old new : State) : Type 0 where
  pub inside : IsInside old new
  pub marks : IsTidy old.now → Needs (table_in old.now (codes "desk")) → Marks Row' old.now new.now

abbrev pub IsBare : List Row → Type 0
IsBare rows = rows ≡ []

abbrev pub Says : List ℕ → List Row → Type 0
Says roster rows = recorded rows ≡ Some roster

-- the texts of the messages
abbrev pub texts_in : List Message → Texts
texts_in messages = set.from_list (map wire messages)

-- If the three tables were empty, they now have the rows of these messages.
pub record Refills (messages : List Message) (old new : Database) : Type 0 where
  pub sound : IsDatabase old → IsDatabase new
  pub schema : new.schema ≡ old.schema
  pub tidy : IsTidy new
  pub rows : HasRows set.empty old → HasRows (texts_in messages) new
  pub desk : table_in new (codes "desk") ≡ table_in old (codes "desk")
  pub messages_same : table_in new (codes "messages") ≡ table_in old (codes "messages")
  pub spares : Spares old new

pub record Refilled (messages : List Message) (old new : State) : Type 0 where
  pub mode : IsTrue new.in_transaction
  pub refills : IsTidy old.now → Refills messages old.now new.now
