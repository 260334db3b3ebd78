-- What was found about the rows that were read holds for the database.
use Rattle.std.proofs.Common.{◌≡◌, ◌&&◌, ℕ, Bool, true, false, List, [], Contains, Option, None, Some, codes, unwrap_or, sym, ap, subst, ◌∙◌}
use Rattle.std.specs.Prelude.{string_bytes}
use Rattle.std.proofs.lemmas.Bool.{and_from, false≢true}
use Rattle.sqlite.specs.declared.types.Value.{Value}
use Rattle.sqlite.specs.Order.{Row, column}
use Rattle.sqlite.specs.Effect.{Database, IsDatabase}
use Rattle.messages.specs.declared.message.Message.{Message}
use Rattle.store_tables.specs.Kept.{HoldsText, IsNoReal, table_in}
use Rattle.store_tables.specs.Rows.{AreRows, IsRow}
use Rattle.store_tables.specs.Sets.{SameSet}
use Rattle.store_tables.specs.Stored.{content_of, recorded_before}
use Rattle.store_tables.proofs.RowSets.{rows_same}
use Rattle.store_schema.specs.declared.part.DeskPart.TheVariants as part
use Rattle.store_schema.specs.References.{AreUnreferred}
use Rattle.store_schema.specs.Shapes.{FindsPart, HasCommon, IsOld, IsUnmarked, IsVacant}
use Rattle.store_schema.proofs.ShapeLemmas.{desk_of}
use Rattle.store_opening.specs.declared.in_database.Contents.{Contents}
use Rattle.store_opening.specs.declared.in_database.InDatabase.TheVariants as found
use Rattle.store_opening.specs.Opened.{FoundIn, HasContents, IsDamaged, IsDeskBesideRows, IsKept}
use Rattle.store_opening.specs.private.Rows.{HaveRowids}
use Rattle.store_opening.specs.private.Judged.{AreContents, IsWhole, LackContents}
use Rattle.store_opening.specs.private.Compare.{are_kept}
use Rattle.store_opening.specs.private.Reading.{AreHeld}
use Rattle.store_opening.specs.private.Selecting.{ShowsRows, ShowsTexts}
use Rattle.store_opening.proofs.KeptLemmas.{held_where_kept, kept_where_held}
use Rattle.store_opening.proofs.Shown.{SameRows, held_too, identified, recorded_two, roster_before, same_back, same_rows_in}
use Rattle.store_opening.proofs.TextsShown.{contents_there, messages_listed, none_there}

-- ---- parts that are there

pub not_vacant : (s : Rattle.sqlite.specs.Schema.Schema) → HasCommon s → ¬ IsVacant s
not_vacant s has vacant = let e : ◌≡◌ {A = Option ℕ} (Some has.desk.at) None = sym has.desk.finds.named ∙ vacant.desk.table in absurd cc

pub not_old : (s : Rattle.sqlite.specs.Schema.Schema) → FindsPart s part.Verdicts → ¬ IsOld s
not_old s has old = let e : ◌≡◌ {A = Option ℕ} (Some has.at) None = sym has.finds.named ∙ old.verdicts.table in absurd cc

-- ---- a desk of today

-- each of the rows that were read has a rowid
pub rows_identified : (db : Database) → IsDatabase db → HasCommon db.schema → FindsPart db.schema part.Verdicts
    → (N V P : List Row) → ShowsRows db N V P → HaveRowids N × HaveRowids V × HaveRowids P
rows_identified db sound common verdicts N V P rows = (
  identified db sound part.Names tt common.names N rows.names_are,
  identified db sound part.Verdicts tt verdicts V rows.verdicts_are,
  identified db sound part.Parked tt common.parked P rows.parked_are,
)

module _ (db : Database) (sound : IsDatabase db) (common : HasCommon db.schema) (verdicts : FindsPart db.schema part.Verdicts) (unmarked : IsUnmarked db)
    (D M N V P : List Row) (alone : Bool) (texts : ShowsTexts db D M) (rows : ShowsRows db N V P)
    (tells : (alone ≡ true → AreUnreferred db.schema) × (AreUnreferred db.schema → alone ≡ true)) where
  names_in : SameRows N (table_in db (codes "names"))
  names_in = same_rows_in db sound part.Names tt common.names N rows.names_are

  verdicts_in : SameRows V (table_in db (codes "verdicts"))
  verdicts_in = same_rows_in db sound part.Verdicts tt verdicts V rows.verdicts_are

  parked_in : SameRows P (table_in db (codes "parked"))
  parked_in = same_rows_in db sound part.Parked tt common.parked P rows.parked_are

  beside : (roster : List ℕ) → HasContents 2 db roster → IsDeskBesideRows db
  beside roster contents = record { common = common; verdicts = verdicts; unmarked = unmarked; contents = (roster, contents) }

  -- the number of a request is no floating-point number
  module _ (S : Message
      → Type 0) (r : AreRows S (IsRow (table_in db (codes "names"))) (IsRow (table_in db (codes "verdicts"))) (IsRow (table_in db (codes "parked")))) where
    whole_names : (x : List Value) → IsRow (table_in db (codes "names")) x → IsNoReal (column x 1)
    whole_names x there = let it = r.names_each x there in subst (λ y. IsNoReal (column y 1)) (sym it.4) tt

    whole_parked : (x : List Value) → IsRow (table_in db (codes "parked")) x → IsNoReal (column x 2)
    whole_parked x there = let it = r.parked_each x there in subst (λ y. IsNoReal (column y 2)) (sym it.3) tt

  kept : (roster : List ℕ) (all : List Message) → AreContents 2 D M roster all → IsWhole alone all N V P → IsKept db
  kept roster all are whole =
      let contents = contents_there 2 db D M texts roster all are in
      let un = tells.0 whole.alone_is in
      let held = held_too (λ m. Contains all m) N V P _ _ _ names_in verdicts_in parked_in whole.held in
      let set : SameSet (λ m. Contains all m) (HoldsText db) = λ m. let both = messages_listed 2 db D M texts roster all are m in (both.1, both.0) in
      record {
        desk = record {
          tidy = record {
            desk = desk_of db.schema common verdicts un.desk un.names un.verdicts un.parked;
            names = record { keyed = held.names; whole = whole_names (λ m. Contains all m) held.rows };
            verdicts = held.verdicts;
            parked = record { keyed = held.parked; whole = whole_parked (λ m. Contains all m) held.rows };
          };
          marked = (roster, sym (recorded_two (table_in db (codes "desk"))) ∙ contents.marked, contents.utf8);
          texts = contents.texts;
          only = contents.only;
          rows = rows_same (λ m. Contains all m) (HoldsText db) set _ _ _ held.rows;
        };
        unmarked = unmarked;
      }

  whole : (roster : List ℕ) (all : List Message) → AreContents 2 D M roster all → IsKept db → IsWhole alone all N V P
  whole roster all are is =
      let desk = is.desk.tidy.desk in
      let set : SameSet (HoldsText db) (λ m. Contains all m) = messages_listed 2 db D M texts roster all are in
      let stored : AreHeld (λ m. Contains all m) (table_in db (codes "names")) (table_in db (codes "verdicts")) (table_in db (codes "parked")) = record {
        rows = rows_same (HoldsText db) (λ m. Contains all m) set _ _ _ is.desk.rows;
        names = is.desk.tidy.names.keyed;
        verdicts = is.desk.tidy.verdicts;
        parked = is.desk.tidy.parked.keyed;
      } in
      record {
        alone_is = tells.1 (record { desk = desk.desk_alone; names = desk.names_alone; verdicts = desk.verdicts_alone; parked = desk.parked_alone });
        held = held_too (λ m. Contains all m) _ _ _ N V P (same_back _ _ names_in) (same_back _ _ verdicts_in) (same_back _ _ parked_in) stored;
      }

  roster_is : (roster : List ℕ) → HasContents 2 db roster → (content_of db).roster ≡ roster
  roster_is roster contents = ap (λ o. unwrap_or o (unwrap_or (recorded_before (table_in db (codes "desk"))) []))
      (sym (recorded_two (table_in db (codes "desk"))) ∙ contents.marked)

  pub desk_in : (c : Contents) → AreContents 2 D M (string_bytes c.roster) c.messages.items
      → alone ≡ true → are_kept c.messages.items N V P ≡ true → FoundIn db (found.Desk c)
  desk_in c are lone test = (
    kept (string_bytes c.roster) c.messages.items are
        (record { alone_is = lone; held = held_where_kept c.messages.items (λ m there. (are.bodies.only m there).message) N V P test }),
    roster_is (string_bytes c.roster) (contents_there 2 db D M texts (string_bytes c.roster) c.messages.items are),
    messages_listed 2 db D M texts (string_bytes c.roster) c.messages.items are,
  )

  pub damaged_in : (c : Contents) → AreContents 2 D M (string_bytes c.roster) c.messages.items
      → (alone && are_kept c.messages.items N V P) ≡ false → IsDamaged db
  damaged_in c are test =
      let roster = string_bytes c.roster in
      let all = c.messages.items in
      let wide = rows_identified db sound common verdicts N V P rows in (
        beside roster (contents_there 2 db D M texts roster all are),
        λ is.
            let it = whole roster all are is in
            false≢true (sym test
            ∙ and_from _ _ it.alone_is (kept_where_held all (λ m there. (are.bodies.only m there).message) N V P wide.0 wide.1 wide.2 it.held)),
      )

-- ---- not a desk of today

-- its texts show something else
pub other_in : (db : Database) → HasCommon db.schema → FindsPart db.schema part.Verdicts
    → (D M : List Row) → ShowsTexts db D M → LackContents 2 D M → FoundIn db found.NotADesk
other_in db common verdicts D M texts lack = (
  not_vacant db.schema common,
  λ is. none_there 2 db D M texts lack is.contents.0 is.contents.1,
  λ old. not_old db.schema verdicts old.tables,
)

-- ---- an older desk

pub old_in : (db : Database) → IsOld db.schema → (D M : List Row) → ShowsTexts db D M → (c : Contents)
    → AreContents 1 D M (string_bytes c.roster) c.messages.items → FoundIn db (found.Old c)
old_in db old D M texts c are =
    let contents = contents_there 1 db D M texts (string_bytes c.roster) c.messages.items are in (
      record { tables = old; contents = (string_bytes c.roster, contents) },
      roster_before (table_in db (codes "desk")) (string_bytes c.roster) contents.marked,
      messages_listed 1 db D M texts (string_bytes c.roster) c.messages.items are,
    )

pub not_old_in : (db : Database) → IsOld db.schema → (D M : List Row) → ShowsTexts db D M → LackContents 1 D M → FoundIn db found.NotADesk
not_old_in db old D M texts lack = (
  not_vacant db.schema old.common,
  λ is. not_old db.schema is.verdicts old,
  λ is. none_there 1 db D M texts lack is.contents.0 is.contents.1,
)
