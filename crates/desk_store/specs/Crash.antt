-- What a crash may leave of a keeper in memory, and of one over a database.
use Rattle.std.specs.Prelude.{◌≡◌, None, [], IsSome, unwrap_or}
use Rattle.sqlite.specs.Effect.{Database, IsDatabase}
use Rattle.sqlite.specs.State.{State}
use Rattle.store_tables.specs.Stored.{content_of}
use Rattle.store_schema.specs.Shapes.{IsVacant}
use Rattle.store_opening.specs.Opened.{IsKept, IsOldDesk}
use Rattle.desk_store.specs.Memory.{MemoryHolds, MemoryContent}
use Rattle.desk_store.specs.Left.{Left, Nothing, ADesk, AnOldDesk, NoDesk, IsDeskOf}

-- ---- a database

-- A database that an opening after a crash may show: a crash may leave its trees, and they list its
-- schema and obey it.
pub record MayShow (s : State) (db : Database) : Type 0 where
  pub left : s.may_leave db.trees
  pub sound : IsDatabase db

-- what a look at the database finds
abbrev pub IsFound : Database → Left → Type 0
IsFound db Nothing = IsVacant db.schema
IsFound db (ADesk c) = IsKept db × (c ≡ content_of db)
IsFound db (AnOldDesk c) = IsOldDesk db × (c ≡ content_of db)
IsFound db NoDesk = (¬ IsVacant db.schema) × (¬ IsKept db) × (¬ IsOldDesk db)

-- a look at a database that the next opening may show finds this
abbrev pub MayLeave : State → Left → Type 0
MayLeave s left = (db : Database) × MayShow s db × IsFound db left

-- ---- memory

-- We model a crash as not losing what a memory keeper holds.
abbrev pub LeavesContent : MemoryContent → Left → Type 0
LeavesContent k Nothing = k.roster ≡ None
LeavesContent k (ADesk c) =
    IsSome k.roster × IsDeskOf (unwrap_or k.roster []) (MemoryHolds k) (ADesk c)
LeavesContent k (AnOldDesk c) = ⊥
LeavesContent k NoDesk = ⊥
