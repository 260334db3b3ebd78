-- What is kept of a desk where the trees are the same, as after a crash.
use Rattle.std.specs.Prelude.{◌≡◌}
use Rattle.sqlite.specs.Effect.{Database}
use Rattle.sqlite.specs.State.{State}
use Rattle.store_tables.specs.SqliteStates.{IsUp}
use Rattle.store_tables.specs.Stored.{content_of}
use Rattle.store_schema.specs.Shapes.{IsVacant}
use Rattle.store_opening.specs.Opened.{IsKept, IsOldDesk}
use Rattle.desk_store.specs.Crash.{MayShow}

-- The second database keeps the same of a desk as the first, whatever else its schema has.
pub record IsAgain (a b : Database) : Type 0 where
  pub empty : IsVacant a.schema → IsVacant b.schema
  pub desk : IsKept a → IsKept b
  pub old : IsOldDesk a → IsOldDesk b
  pub content : content_of b ≡ content_of a

-- While the store is up, a crash leaves what is shown.
abbrev pub Settled : State → Type 0
Settled s = IsUp s → (db : Database) → MayShow s db → IsAgain s.now db
