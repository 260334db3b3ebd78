-- What the calls that replace the roster's text leave, one after the other.
use Rattle.std.proofs.Common.{◌≡◌, ◌∙◌, ℕ, List, [], ◌∷◌, Option, Some, None, Result, Ok, Err, inl, inr, le_refl, refl, subst, sym}
use Rattle.std.specs.Prelude.{IsErr, OnErr, OnOk}
use Rattle.sqlite.specs.Table.{Table}
use Rattle.sqlite.specs.Tree.{Trees}
use Rattle.sqlite.specs.Effect.{Database}
use Rattle.sqlite.specs.State.{State, Survives}
use Rattle.sqlite.proofs.StateLemmas.{survives_then, survives_weaker}
use Rattle.sqlite_rules.specs.Lists.{Has}
use Rattle.store_tables.specs.DeskTables.{verdicts_at}
use Rattle.store_tables.specs.Kept.{IsDeskDatabase, Spares}
use Rattle.store_tables.specs.SqliteStates.{IsUp, Rests}
use Rattle.store_tables.specs.Stored.{content_of, with_roster}
use Rattle.store_tables.specs.Committed.{ChangesAt}
use Rattle.store_schema.specs.Beside.{IsOther, KeepsBeside}
use Rattle.store_schema.specs.declared.part.DeskPart.TheVariants as part
use Rattle.store_schema.specs.declared.shape.Shape.{Shape}
use Rattle.store_schema.specs.declared.shape.Shape.TheVariants as shape
use Rattle.store_schema.specs.Shapes.{FindsPart, IsShape}
use Rattle.store_schema.proofs.BesideLemmas.{other_apart, other_new, other_still, spared_beside, there_still}
use Rattle.store_schema.proofs.ShapeLemmas.{common_of}
use Rattle.store_schema.proofs.MarksLemmas.{unmarked_spared, unmarked_still}
use Rattle.store_opening.specs.declared.in_database.Contents.{Contents}
use Rattle.store_opening.specs.declared.in_database.InDatabase.{InDatabase}
use Rattle.store_opening.specs.declared.in_database.InDatabase.TheVariants as found
use Rattle.store_migration.specs.Migrated.{GainsVerdicts, IsBeside, KeepsOthers, MigratesAt}
use Rattle.store_opening.specs.Opened.{FoundIn, IsKept, IsOldDesk, Reads}
use Rattle.desk_store.specs.private.Replacing.{Becomes, BecomesAt, IsEither, IsOfToday, Replaces}

-- what was found, by its case
pub found_older : (db : Database) (f : InDatabase) (c : Contents) → f ≡ found.Old c → FoundIn db f → FoundIn db (found.Old c)
found_older db f c is told = subst (FoundIn db) is told

-- a call that did nothing
survives_same : (s : State) (P : Trees → Type 0) → Survives s s P
survives_same s P = record {
  clean = le_refl _;
  shield = λ h. h;
  counts = le_refl _;
  limit = refl;
  closes = λ clean open'. inl open';
  crash = λ clean db left. inl left;
}

pub nothing_done : {A E : Type 0} (roster : List ℕ) (s : State) (e : E) → Rests s → Replaces {A = A} roster s s (Err e)
nothing_done roster s e rests = record {
  rests = rests;
  was_up = λ up. up;
  was_clean = λ clean. clean;
  up = λ clean. tt;
  becomes = λ up. tt;
  beside = λ up. tt;
  unchanged = λ up. refl;
  survives = survives_same s (λ trees. IsUp s × BecomesAt roster s.now trees);
}

pub nothing_came : {A E : Type 0} (roster : List ℕ) (s : State) (r : Result A E) → IsErr r → Rests s → Replaces roster s s r
nothing_came roster s (Ok x) is rests = absurd cc
nothing_came roster s (Err e) is rests = nothing_done roster s e rests

module _ {A E : Type 0} (roster : List ℕ) (a b : State) (reads : Reads a b) where
  -- a call that read, and then a refusal
  pub read_refused : (e : E) → Replaces {A = A} roster a b (Err e)
  read_refused e = record {
    rests = reads.rests;
    was_up = reads.was_up;
    was_clean = reads.was_clean;
    up = λ clean. tt;
    becomes = λ up. tt;
    beside = λ up. tt;
    unchanged = reads.same;
    survives = survives_weaker a b (λ _. ⊥) (λ trees. IsUp a × BecomesAt roster a.now trees) (λ _ db none. absurd none) reads.survives;
  }

  pub read_only : (r : Result A E) → IsErr r → Replaces roster a b r
  read_only (Ok x) is = absurd cc
  read_only (Err e) is = read_refused e

  -- a call that read, and then one that replaced
  pub then_replaces : (c : State) (r : Result A E) → Replaces roster b c r → Replaces roster a c r
  then_replaces c r two = record {
    rests = two.rests;
    was_up = λ up. reads.was_up (two.was_up up);
    was_clean = λ clean. reads.was_clean (two.was_clean clean);
    up = two.up;
    becomes = λ up. subst (λ (d : Database). OnOk r (Becomes roster d c.now)) (reads.same (two.was_up up)) (two.becomes up);
    beside = λ up. subst (λ (d : Database). OnOk r (KeepsBeside d c.now)) (reads.same (two.was_up up)) (two.beside up);
    unchanged = λ up. subst (λ (d : Database). OnErr r (c.now ≡ d)) (reads.same (two.was_up up)) (two.unchanged up);
    survives = survives_then a b c (λ _. ⊥) (λ trees. IsUp b × BecomesAt roster b.now trees) (λ trees. IsUp a × BecomesAt roster a.now trees)
        (λ _ db none. absurd none)
        (λ _ db is. (reads.was_up is.0, subst (λ (d : Database). BecomesAt roster d db) (reads.same is.0) is.1)) reads.survives two.survives;
  }

-- ---- a desk of today

-- a desk of an older form has no `verdicts`
kept_by : (db : Database) → FindsPart db.schema part.Verdicts → IsEither db → IsKept db
kept_by db there (inl kept) = kept
kept_by db there (inr old) =
    let wrong : ◌≡◌ {A = Option ℕ} (Some there.at) None = sym there.finds.named ∙ old.tables.verdicts.table in absurd cc

pub of_today : (db : Database) (s : Shape) → IsShape db.schema s → IsOfToday s → IsEither db → IsKept db
of_today db shape.Free is none either = absurd none
of_today db shape.Desk is today either = kept_by db is.verdicts either
of_today db shape.Migrated is today either = kept_by db is.verdicts either
of_today db shape.Old is none either = absurd none
of_today db shape.Other is none either = absurd none

both_ok : {A E P Q R : Type 0} (r : Result A E) → OnOk r P → OnOk r Q → (P → Q → R) → OnOk r R
both_ok (Ok x) p q on = on p q
both_ok (Err e) p q on = tt

all_ok : {A E P Q R S : Type 0} (r : Result A E) → OnOk r P → OnOk r Q → OnOk r R → (P → Q → R → S) → OnOk r S
all_ok (Ok x) p q r on = on p q r
all_ok (Err e) p q r on = tt

ok_then : {A E P Q : Type 0} (r : Result A E) → OnOk r P → (P → Q) → OnOk r Q
ok_then (Ok x) p on = on p
ok_then (Err e) p on = tt

module _ {A E : Type 0} (roster : List ℕ) (old new : State) (r : Result A E) (kept : IsUp old → IsKept old.now) (was_up : IsUp new → IsUp old) where
  pub today_becomes : (up : IsUp new) → IsDeskDatabase new.now → OnOk r (content_of new.now ≡ with_roster roster (content_of old.now))
      → OnOk r (Spares old.now new.now) → OnOk r (Becomes roster old.now new.now)
  today_becomes up desk content spares =
      let was = kept (was_up up) in
      both_ok r content spares
      (λ c s. record { desk = record { desk = desk; unmarked = unmarked_still old.now new.now was.desk.tidy.desk s was.unmarked }; content = c })

  pub today_beside : IsUp new → OnOk r (Spares old.now new.now) → OnOk r (KeepsBeside old.now new.now)
  today_beside up spares = ok_then r spares (spared_beside old.now new.now (kept (was_up up)).desk.tidy.desk)

  pub today_survives : Survives old new (λ trees. IsUp old × ChangesAt roster old.now trees)
      → Survives old new (λ trees. IsUp old × BecomesAt roster old.now trees)
  today_survives lives =
      survives_weaker old new (λ trees. IsUp old × ChangesAt roster old.now trees) (λ trees. IsUp old × BecomesAt roster old.now trees)
      (λ _ trees at. let was = kept at.0 in (
        at.0,
        λ db same sound. let it = at.1 db same sound in record {
          desk = record { desk = it.desk; unmarked = unmarked_spared old.now db it.listed was.desk.tidy.desk it.foreign was.unmarked };
          content = it.content;
        },
      )) lives

-- ---- a desk of an older form

module _ (old new : Database) (was : IsOldDesk old) (is : IsKept new) (grown : GainsVerdicts old new) (kept : KeepsOthers old new) where
  abbrev more : List Table
  more = verdicts_at grown.0 ∷ []

  -- a part that was there is still found, and `verdicts` has a tree of its own
  other_still_all : (t : Table) → Has old.schema.tables t → IsOther old.schema t.tree → IsOther new.schema t.tree
  other_still_all t there other part.Desk = other_still old.schema new.schema more grown.1 part.Desk t.tree was.tables.common.desk (other part.Desk)
  other_still_all t there other part.Messages =
      other_still old.schema new.schema more grown.1 part.Messages t.tree was.tables.common.messages (other part.Messages)
  other_still_all t there other part.Names = other_still old.schema new.schema more grown.1 part.Names t.tree was.tables.common.names (other part.Names)
  other_still_all t there other part.Parked = other_still old.schema new.schema more grown.1 part.Parked t.tree was.tables.common.parked (other part.Parked)
  other_still_all t there other part.Marks = other_still old.schema new.schema more grown.1 part.Marks t.tree was.tables.marks (other part.Marks)
  other_still_all t there other part.Verdicts =
      other_new old.schema new.schema more grown.1 part.Verdicts t was.tables.verdicts.table (common_of new.schema is.desk.tidy.desk).1 there

  stands_apart : (tree : ℕ) → IsOther old.schema tree → IsBeside old.schema tree
  stands_apart tree other = record {
    desk = other_apart old.schema part.Desk tree was.tables.common.desk (other part.Desk);
    messages = other_apart old.schema part.Messages tree was.tables.common.messages (other part.Messages);
    names = other_apart old.schema part.Names tree was.tables.common.names (other part.Names);
    marks = other_apart old.schema part.Marks tree was.tables.marks (other part.Marks);
    parked = other_apart old.schema part.Parked tree was.tables.common.parked (other part.Parked);
  }

  migrated_beside : KeepsBeside old new
  migrated_beside it stands = record {
    there = there_still old.schema new.schema more grown.1 it.table stands.there;
    other = other_still_all it.table stands.there stands.other;
    rows = kept it.table stands.there (stands_apart it.table.tree stands.other) ∙ stands.rows;
  }

module _ {A E : Type 0} (roster : List ℕ) (old new : State) (r : Result A E) where
  pub older_becomes : OnOk r (IsKept new.now) → OnOk r (content_of new.now ≡ with_roster roster (content_of old.now)) → OnOk r (Becomes roster old.now new.now)
  older_becomes kept content = both_ok r kept content (λ k c. record { desk = k; content = c })

  pub older_beside : IsOldDesk old.now → OnOk r (IsKept new.now) → OnOk r (GainsVerdicts old.now new.now)
      → OnOk r (KeepsOthers old.now new.now) → OnOk r (KeepsBeside old.now new.now)
  older_beside was kept grown others = all_ok r kept grown others (migrated_beside old.now new.now was)

  pub older_survives : Survives old new (λ trees. IsUp old × MigratesAt roster old.now trees)
      → Survives old new (λ trees. IsUp old × BecomesAt roster old.now trees)
  older_survives lives =
      survives_weaker old new (λ trees. IsUp old × MigratesAt roster old.now trees) (λ trees. IsUp old × BecomesAt roster old.now trees)
      (λ _ trees at. (at.0, λ db same sound. let it = at.1 db same sound in record { desk = it.kept; content = it.content })) lives
