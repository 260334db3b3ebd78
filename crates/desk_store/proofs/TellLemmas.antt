-- A database keeps no part of a desk, a desk, or one of an older form: no two of these, and a look tells which.
use Rattle.std.proofs.Common.{◌∙◌, ℕ, List, Option, Some, None, ap, codes, sym, subst}
use Rattle.std.specs.Prelude.{IfSome, string_bytes}
use Rattle.sqlite.specs.Effect.{Database}
use Rattle.messages.specs.declared.message.Message.{Message}
use Rattle.outcomes.specs.Gathered.{AreGathered, Known}
use Rattle.store_tables.specs.Kept.{HoldsText, table_in}
use Rattle.store_tables.specs.Sets.{Lists}
use Rattle.store_tables.specs.Stored.{content_of}
use Rattle.store_schema.specs.Shapes.{IsVacant}
use Rattle.store_schema.proofs.ShapeLemmas.{common_of}
use Rattle.store_opening.specs.declared.in_database.InDatabase.{InDatabase}
use Rattle.store_opening.specs.declared.in_database.InDatabase.TheVariants as database
use Rattle.store_opening.specs.Opened.{FoundIn, IsDeskBesideRows, IsKept, IsOldDesk}
use Rattle.store_opening.specs.Opened.{IsSomeDesk as IsFoundDesk}
use Rattle.store_opening.proofs.OpenedLemmas.{not_old, not_vacant}
use Rattle.store_opening.proofs.Shown.{recorded_two}
use Rattle.desk_store.specs.declared.found.Found.{Found}
use Rattle.desk_store.specs.Keeping.{FindsSomeDesk, IsCountIn, IsCountOf, IsKnownOf, Tells, TellsCount, TellsKnown}
use Rattle.desk_store.specs.private.Showing.{IsShown}

-- a look that answers that there is a desk was answered so by the database
pub live_of : {Up : Type 0} (f : InDatabase) (g : Found) → IsShown f g → (IsFoundDesk f → Up) → FindsSomeDesk g → Up
live_of database.Empty g is live some = absurd (subst FindsSomeDesk is some)
live_of (database.Desk c) g is live some = live tt
live_of (database.Old c) g is live some = live tt
live_of database.NotADesk g is live some = absurd (subst FindsSomeDesk is some)

module _ (db : Database) where
  pub kept_not_vacant : IsKept db → ¬ IsVacant db.schema
  kept_not_vacant is = not_vacant db.schema (common_of db.schema is.desk.tidy.desk).0

  pub old_not_vacant : IsOldDesk db → ¬ IsVacant db.schema
  old_not_vacant is = not_vacant db.schema is.tables.common

  pub kept_not_old : IsKept db → ¬ IsOldDesk db
  kept_not_old is old = not_old db.schema (common_of db.schema is.desk.tidy.desk).1 old.tables

  kept_beside : IsKept db → IsDeskBesideRows db
  kept_beside is =
      let has = common_of db.schema is.desk.tidy.desk in
      let marked = is.desk.marked in
      record {
        common = has.0;
        verdicts = has.1;
        unmarked = is.unmarked;
        contents = (
          marked.0,
          record { marked = recorded_two (table_in db (codes "desk")) ∙ marked.1; utf8 = marked.2; texts = is.desk.texts; only = is.desk.only },
        );
      }

  abbrev TellsOf : Found → Type 0
  TellsOf it = Tells (IsVacant db.schema) (IsKept db) (IsOldDesk db) (content_of db).roster it

  pub told : (f : InDatabase) (g : Found) → IsShown f g → FoundIn db f → TellsOf g
  told database.Empty g is found = subst TellsOf (sym is) (found, λ kept. kept_not_vacant kept found, λ old. old_not_vacant old found)
  told (database.Desk c) g is found = subst TellsOf (sym is.1) (
    found.0,
    kept_not_vacant found.0,
    kept_not_old found.0,
    ap string_bytes is.2.roster ∙ sym found.1,
  )
  told (database.Old c) g is found = subst TellsOf (sym is) (found.0, old_not_vacant found.0, λ kept. kept_not_old kept found.0)
  told database.NotADesk g is found = subst TellsOf (sym is) (found.0, λ kept. found.1 (kept_beside kept), found.2)

  -- what is known of the messages in the order in which they were found is known of the desk's
  known_as : (known : Option Known) (messages : List Message) → Lists (HoldsText db) messages
      → IfSome known (AreGathered messages) → IfSome known (IsKnownOf (HoldsText db))
  known_as None messages lists is = tt
  known_as (Some known) messages lists is = (messages, lists, is)

  pub told_known : (f : InDatabase) (g : Found) → IsShown f g → FoundIn db f → TellsKnown (HoldsText db) g
  told_known database.Empty g is found = subst (TellsKnown (HoldsText db)) (sym is) tt
  told_known (database.Desk c) g is found =
      subst (TellsKnown (HoldsText db)) (sym is.1) (known_as is.0.known c.messages.items found.2 is.2.known)
  told_known (database.Old c) g is found = subst (TellsKnown (HoldsText db)) (sym is) tt
  told_known database.NotADesk g is found = subst (TellsKnown (HoldsText db)) (sym is) tt

  -- so many messages as were found are the desk's
  count_as : (count : Option ℕ) (messages : List Message) → Lists (HoldsText db) messages
      → IfSome count (IsCountIn messages) → IfSome count (IsCountOf (HoldsText db))
  count_as None messages lists is = tt
  count_as (Some count) messages lists is = (messages, lists, is)

  pub told_count : (f : InDatabase) (g : Found) → IsShown f g → FoundIn db f → TellsCount (HoldsText db) g
  told_count database.Empty g is found = subst (TellsCount (HoldsText db)) (sym is) tt
  told_count (database.Desk c) g is found =
      subst (TellsCount (HoldsText db)) (sym is.1) (count_as is.0.count c.messages.items found.2 is.2.count)
  told_count (database.Old c) g is found = subst (TellsCount (HoldsText db)) (sym is) tt
  told_count database.NotADesk g is found = subst (TellsCount (HoldsText db)) (sym is) tt
