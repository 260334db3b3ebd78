-- What an older desk is after it was moved, in whatever schema lists its trees.
use Rattle.std.proofs.Common.{◌≡◌, inl, inr, ℕ, List, [], ◌∷◌, codes, Some, unwrap_or, sym, ap, subst, ◌∙◌}
use Rattle.std.specs.Prelude.{IsUtf8}
use Rattle.std.specs.List.{list_any}
use Rattle.std.specs.FinSet as set
use Rattle.sqlite.specs.Tree.{Trees}
use Rattle.sqlite.specs.Effect.{Database, IsDatabase}
use Rattle.sqlite.specs.State.{State}
use Rattle.sqlite_catalog.specs.Listing.{IsSound}
use Rattle.sqlite_rules.specs.Lists.{Has}
use Rattle.messages.specs.declared.message.Message.{Message}
use Rattle.store_tables.specs.Kept.{HasRows, Holds, HoldsText, IsDeskDatabase, Spares, table_in}
use Rattle.store_tables.specs.Sets.{Lists}
use Rattle.store_tables.specs.Stored.{Texts, content_of, is_stray, recorded, recorded_before, row_texts}
use Rattle.store_tables.specs.Steps.{IsBare, Marked, Marks, Says}
use Rattle.store_tables.specs.Steps.{Refilled, Refills, texts_in}
use Rattle.store_tables.proofs.OneSchema.{again, same_tables, unused_again}
use Rattle.store_tables.proofs.RefillLemmas.{no_rows}
use Rattle.store_tables.proofs.ReplaceLemmas as replacing
use Rattle.store_tables.proofs.RosterLemmas.{same_messages, same_names, same_parked, same_verdicts}
use Rattle.store_tables.proofs.RowSets.{rows_same}
use Rattle.store_tables.proofs.TurnLemmas.{Desk, rows_at, spares_but, spares_then}
use Rattle.store_schema.specs.Shapes.{IsUnmarked}
use Rattle.store_schema.proofs.MadeLemmas.{none_in}
use Rattle.store_schema.proofs.TableLists.{has_before}
use Rattle.store_schema.proofs.MarksLemmas.{unmarked_still}
use Rattle.store_opening.specs.Opened.{IsOldDesk}
use Rattle.store_migration.specs.Migrated.{Migrates}
use Rattle.store_migration.specs.private.Moving.{Moved, Prepared, Prepares}
use Rattle.store_migration.proofs.PartLemmas.{finds_by}

-- ---- the roster's row, and the rows of the messages

module _ (roster : List ℕ) (utf8 : IsUtf8 roster) (ms : List Message) (a b c d : Database) (was : IsOldDesk a)
    (lists : Lists (HoldsText a) ms) (p : Prepares a b) (put : Marks (Says roster) b c) (r : Refills ms c d) where
  -- none of the three tables has a row yet
  empty : HasRows set.empty c
  empty =
      let names = same_names b c p.tidy put.schema put.others ∙ p.names in
      let verdicts = same_verdicts b c p.tidy put.schema put.others ∙ p.verdicts in
      let parked = same_parked b c p.tidy put.schema put.others ∙ p.parked in
      no_rows c (λ x there. none_in _ names (there.0 ∷ x) there.1)
      (λ x there. none_in _ verdicts (there.0 ∷ x) there.1) (λ x there. none_in _ parked (there.0 ∷ x) there.1)

  marked : recorded (table_in d (codes "desk")) ≡ Some roster
  marked = ap recorded r.desk ∙ put.row

  messages : table_in d (codes "messages") ≡ table_in a (codes "messages")
  messages = r.messages_same ∙ same_messages b c p.tidy put.schema put.others ∙ p.messages

  texts : (content_of d).texts ≡ (content_of a).texts
  texts = ap row_texts messages

  desk : IsDeskDatabase d
  desk = record {
    tidy = r.tidy;
    marked = (roster, marked, utf8);
    texts = ap (list_any is_stray) messages ∙ was.contents.1.texts;
    only = λ text there. was.contents.1.only text (ap (λ (t : Texts). set.contains t text) (sym texts) ∙ there);
    rows = subst (λ t. HasRows t d) (sym texts) (rows_same (Holds (texts_in ms)) (Holds (content_of a).texts) (replacing.same_messages (content_of a).texts
        ms lists) (rows_at d (codes "names")) (rows_at d (codes "verdicts")) (rows_at d (codes "parked")) (r.rows empty));
  }

  spares : Spares b d
  spares = spares_then b c d (spares_but b c Desk put.schema put.others) r.spares

  pub migrates : Migrates roster a d
  migrates = record {
    sound = r.sound put.sound;
    kept = record { desk = desk; unmarked = unmarked_still b d p.tidy.desk spares (inr p.marks) };
    content = λ i. record { roster = unwrap_or (marked i) (unwrap_or (recorded_before (table_in d (codes "desk"))) []); texts = texts i };
    grown = (p.grown.0, ap (λ s. s.tables) spares.schema ∙ p.grown.1);
    others = λ t there beside.
        spares.foreign t (subst (λ ts. Has ts t) (sym p.grown.1) (has_before a.schema.tables _ t there)) (p.foreign t there beside) ∙ p.others t there beside;
  }

pub moved : (roster : List ℕ) (ms : List Message) (a b c d : State) → IsUtf8 roster
    → Prepared a b → Marked IsBare (Says roster) b c → Refilled ms c d → Moved roster ms a d
moved roster ms a b c d utf8 one two three = record {
  was_open = one.was_open;
  mode = three.mode;
  migrates = λ was may lists.
      let p = one.prepares was.tables may in
      let put = two.marks p.tidy p.desk in
      migrates roster utf8 ms a.now b.now c.now d.now was lists p put (three.refills put.tidy);
}

-- ---- what was promised for one schema holds for each that the trees list

module _ (a b : Database) (first : IsDatabase a) (second : IsDatabase b) (same : b.trees ≡ a.trees) where
  sound : IsSound b.schema a.trees
  sound = subst (λ (t : Trees). IsSound b.schema t) same second

  tables : a.schema.tables ≡ b.schema.tables
  tables = same_tables a.schema b.schema a.trees first sound

  unmarked_again : IsUnmarked a → IsUnmarked b
  unmarked_again unmarked = elim unmarked as (λ _. IsUnmarked b) [
    | inl lacks ↦ inl (unused_again a.schema b.schema a.trees first sound (codes "marks") lacks)
    | inr it ↦ inr (record {
      marks = record {
        at = it.marks.at;
        table = it.marks.table;
        finds = finds_by a.schema b.schema (codes "marks") it.marks.at it.marks.table tables it.marks.finds;
        is = it.marks.is;
      };
      empty = ap (λ (db : Trees). db it.marks.table.tree) same ∙ it.empty;
    })
  ]

pub migrates_again : (roster : List ℕ) (old a b : Database) → IsDatabase b → b.trees ≡ a.trees → Migrates roster old a → Migrates roster old b
migrates_again roster old a b second same it =
    let whole = again a b it.sound second same in
    record {
      sound = second;
      kept = record { desk = whole.desk it.kept.desk; unmarked = unmarked_again a b it.sound second same it.kept.unmarked };
      content = whole.content ∙ it.content;
      grown = (it.grown.0, sym (tables a b it.sound second same) ∙ it.grown.1);
      others = λ t there beside. ap (λ (db : Trees). db t.tree) same ∙ it.others t there beside;
    }
