-- What a call that replaces the roster's text does to a connection.
use Rattle.std.specs.Prelude.{◌≡◌, ◌⊎◌, ⊤, List, ℕ, OnOk, OnErr, Result}
use Rattle.sqlite.specs.Tree.{Trees}
use Rattle.sqlite.specs.Effect.{Database, IsDatabase}
use Rattle.sqlite.specs.State.{HasCleanDisk, State, Survives}
use Rattle.store_tables.specs.SqliteStates.{IsUp, Rests}
use Rattle.store_tables.specs.Stored.{content_of, with_roster}
use Rattle.store_schema.specs.Beside.{KeepsBeside}
use Rattle.store_schema.specs.declared.shape.Shape.{Shape}
use Rattle.store_schema.specs.declared.shape.Shape.TheVariants as shape
use Rattle.store_opening.specs.Opened.{IsKept, IsOldDesk}

-- a desk of either form
abbrev pub IsEither : Database → Type 0
IsEither db = IsKept db ⊎ IsOldDesk db

-- the tables of a desk of today
abbrev pub IsOfToday : Shape → Type 0
IsOfToday shape.Free = ⊥
IsOfToday shape.Desk = ⊤
IsOfToday shape.Migrated = ⊤
IsOfToday shape.Old = ⊥
IsOfToday shape.Other = ⊥

-- a desk of today, with the other roster text and the messages that were there
pub record Becomes (roster : List ℕ) (old new : Database) : Type 0 where
  pub desk : IsKept new
  pub content : content_of new ≡ with_roster roster (content_of old)

-- any database with these trees is that desk
abbrev pub BecomesAt : List ℕ → Database → Trees → Type 0
BecomesAt roster old trees =
    (db : Database) → db.trees ≡ trees → IsDatabase db → Becomes roster old db

-- The whole replacing was done in one commit, or nothing was.
pub record Replaces {A E : Type 0} (roster : List ℕ)
    (old new : State) (result : Result A E) : Type 0 where
  pub rests : Rests new
  pub was_up : IsUp new → IsUp old
  pub was_clean : HasCleanDisk new → HasCleanDisk old
  pub up : HasCleanDisk new → OnOk result (IsUp new)
  pub becomes : IsUp new → OnOk result (Becomes roster old.now new.now)
  pub beside : IsUp new → OnOk result (KeepsBeside old.now new.now)
  pub unchanged : IsUp new → OnErr result (new.now ≡ old.now)
  pub survives : Survives old new (λ trees. IsUp old × BecomesAt roster old.now trees)
