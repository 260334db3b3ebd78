-- What a database is found to keep as it is opened, and what a call that reads leaves as it is.
use Rattle.std.specs.Prelude.{◌≡◌, ◌&&◌, ⊤, cond, false, true, Bool, ℕ, pos, List, []}
use Rattle.std.specs.Prelude.{◌∷◌, Option, Some, None, codes, string_bytes, IsUtf8}
use Rattle.std.specs.List.{list_any}
use Rattle.std.specs.Ordering.{int_eq}
use Rattle.sqlite.specs.declared.types.Value.{Value}
use Rattle.sqlite.specs.declared.types.Value.TheVariants.{Null, Int, Real, Text, Blob}
use Rattle.sqlite.specs.Order.{Row, column}
use Rattle.sqlite.specs.Effect.{Database}
use Rattle.sqlite.specs.State.{HasCleanDisk, State, Survives}
use Rattle.store_tables.specs.Kept.{HoldsText, IsDeskDatabase, table_in}
use Rattle.store_tables.specs.Sets.{Lists}
use Rattle.store_tables.specs.SqliteStates.{IsUp, Rests}
use Rattle.store_tables.specs.Stored.{IsWritten, content_of, has, is_stray, text_at}
use Rattle.store_schema.specs.declared.part.DeskPart.TheVariants.{Verdicts}
use Rattle.store_schema.specs.Shapes.{FindsPart, HasCommon, IsOld, IsUnmarked, IsVacant}
use Rattle.store_opening.specs.declared.in_database.InDatabase.{InDatabase}
use Rattle.store_opening.specs.declared.in_database.InDatabase.TheVariants.{Empty, Desk, Old}
use Rattle.store_opening.specs.declared.in_database.InDatabase.TheVariants.{NotADesk}

-- ---- the row of `desk`

abbrev pub is_number : ℕ → Value → Bool
is_number number Null = false
is_number number (Int n) = int_eq n (pos number)
is_number number (Real x) = false
is_number number (Text t) = false
is_number number (Blob b) = false

-- the roster's text, if there is exactly one row, and it has the id 1 and this schema
abbrev pub recorded_as : ℕ → List Row → Option (List ℕ)
recorded_as version [] = None
recorded_as version (r ∷ []) =
    cond (is_number 1 (column r 0) && is_number version (column r 2)) (text_at (column r 3)) None
recorded_as version (r ∷ s ∷ rs) = None

-- ---- what is kept

-- `desk` has its row, with this schema, and `messages` has only texts of messages
pub record HasContents (version : ℕ) (db : Database) (roster : List ℕ) : Type 0 where
  pub marked : recorded_as version (table_in db (codes "desk")) ≡ Some roster
  pub utf8 : IsUtf8 roster
  pub texts : list_any is_stray (table_in db (codes "messages")) ≡ false
  pub only : (text : List ℕ) → has (content_of db) text ≡ true → IsWritten text

-- `messages` has only texts of messages
pub record HasTexts (db : Database) : Type 0 where
  pub texts : list_any is_stray (table_in db (codes "messages")) ≡ false
  pub only : (text : List ℕ) → has (content_of db) text ≡ true → IsWritten text

-- A desk of today: its tables, each with the rows of its messages, and nothing in the `marks` of an
-- older desk.
pub record IsKept (db : Database) : Type 0 where
  pub desk : IsDeskDatabase db
  pub unmarked : IsUnmarked db

-- The database has the tables and the texts of a desk of today; the rows that should follow from
-- the texts may be any.
pub record IsDeskBesideRows (db : Database) : Type 0 where
  pub common : HasCommon db.schema
  pub verdicts : FindsPart db.schema Verdicts
  pub unmarked : IsUnmarked db
  pub contents : (roster : List ℕ) × HasContents 2 db roster

-- An older desk, of schema 1.
pub record IsOldDesk (db : Database) : Type 0 where
  pub tables : IsOld db.schema
  pub contents : (roster : List ℕ) × HasContents 1 db roster

-- ---- what is found

-- what a database is found to keep
abbrev pub FoundIn : Database → InDatabase → Type 0
FoundIn db Empty = IsVacant db.schema
FoundIn db (Desk c) = IsKept db × ((content_of db).roster ≡ string_bytes c.roster)
    × Lists (HoldsText db) c.messages.items
FoundIn db (Old c) =
    IsOldDesk db × ((content_of db).roster ≡ string_bytes c.roster)
    × Lists (HoldsText db) c.messages.items
FoundIn db NotADesk = (¬ IsVacant db.schema) × (¬ IsDeskBesideRows db) × (¬ IsOldDesk db)

-- a desk, of today's form or of an older one
abbrev pub IsSomeDesk : InDatabase → Type 0
IsSomeDesk Empty = ⊥
IsSomeDesk (Desk c) = ⊤
IsSomeDesk (Old c) = ⊤
IsSomeDesk NotADesk = ⊥

-- A desk's tables and texts are there, but the rows that should follow from these, or the foreign
-- keys, are not those of a desk.
abbrev pub IsDamaged : Database → Type 0
IsDamaged db = IsDeskBesideRows db × (¬ IsKept db)

-- ---- calls that read

-- The database is as it was, and nothing is committed.
pub record Reads (old new : State) : Type 0 where
  pub rests : Rests new
  pub was_up : IsUp new → IsUp old
  pub was_clean : HasCleanDisk new → HasCleanDisk old
  pub same : IsUp new → new.now ≡ old.now
  pub survives : Survives old new (λ _. ⊥)
