-- What the statements that empty a table do, and several of them.
use Rattle.std.proofs.Common.{◌≡◌, ◌≢◌, ◌==◌, ℕ, List, [], ◌∷◌, length, map, true, Result, Ok, Err, IfOk, OnOk, IsTrue, Vec, refl, sym, ap, subst, ◌∙◌, arith}
use Rattle.std.specs.List.{AllByRecursion}
use Rattle.std.proofs.lemmas.List.Sorted.{length_permutation}
use Rattle.std.proofs.lemmas.Bool.Decides.{Decides-eqb}
use Rattle.std.specs.declared.alloc.Global.{Global}
use Rattle.sqlite.specs.Order.{Row}
use Rattle.sqlite.specs.Command.TheVariants as command
use Rattle.sqlite.specs.Schema.{Schema}
use Rattle.sqlite.specs.Table.{Table}
use Rattle.sqlite.specs.Effect.{Database}
use Rattle.sqlite.specs.Listing.{understood}
use Rattle.sqlite.specs.State.{State, Executes, ExecutesInside, Shown}
use Rattle.sqlite.specs.declared.error.Error.{Error}
use Rattle.sqlite.proofs.Callers.{runs_as, statement_of}
use Rattle.sqlite_rules.specs.Lists.{Has}
use Rattle.sqlite_rules.proofs.ListLemmas.{all_has}
use Rattle.sqlite_tied.specs.Compute.{everything}
use Rattle.store_tables.specs.Kept.{table_in}
use Rattle.store_tables.specs.Stored.{IsUnreferred, tree_of}
use Rattle.store_tables.proofs.QueriesOf.{Means}
use Rattle.store_tables.proofs.QueryLemmas.{asks_inside, shown_same}
use Rattle.store_tables.proofs.Takes as takes
use Rattle.store_tables.proofs.Where.{IsClear, scanning}
use Rattle.store_tables.proofs.Where as where'
use Rattle.store_schema.specs.declared.part.DeskPart.{DeskPart}
use Rattle.store_schema.specs.declared.part.DeskPart.TheVariants.{Desk, Messages, Names, Marks, Verdicts, Parked}
use Rattle.store_schema.specs.Migratable.{IsMigratable}
use Rattle.store_schema.specs.Parts.{part_name}
use Rattle.store_schema.specs.Shapes.{FindsPart, IsOld}
use Rattle.store_schema.proofs.ShapeLemmas.{tree_in}
use Rattle.store_opening.specs.Statements.{select_of}
use Rattle.store_opening.specs.private.Selecting.{ShowsPart, shown_of}
use Rattle.store_opening.proofs.ReadLemmas.{part_plain, part_shown}
use Rattle.store_migration.specs.private.Clearing.{Cleared, Clears, Deleted, Deletes, Left, delete_of}
use Rattle.store_migration.specs.private.Moving.{Emptied, Empties}
use Rattle.store_migration.proofs.PartLemmas.{mark_of, still}

-- ---- the DELETE

parts : (p : DeskPart) → IsClear (delete_of p) (part_name p)
unfolding everything
parts Desk = record { p = _; parsed = refl; statement = refl; formats = refl }
parts Messages = record { p = _; parsed = refl; statement = refl; formats = refl }
parts Names = record { p = _; parsed = refl; statement = refl; formats = refl }
parts Marks = record { p = _; parsed = refl; statement = refl; formats = refl }
parts Verdicts = record { p = _; parsed = refl; statement = refl; formats = refl }
parts Parked = record { p = _; parsed = refl; statement = refl; formats = refl }

means : (p : DeskPart) (s : Schema) (it : FindsPart s p)
    → Means s (delete_of p) (command.Delete it.at (record { lets = []; body = scanning it.table.tree }))
means p s it = where'.clears s (delete_of p) (part_name p) (parts p) it.at it.table it.finds

deletes : (p : DeskPart) (old new : State) (count : ℕ) → FindsPart old.now.schema p
    → IsUnreferred old.now.schema (tree_of old.now.schema (part_name p)) → Executes (delete_of p) [] old new (Ok count) → Deletes p old.now new.now
deletes p old new count it alone ran =
    let s = old.now.schema in
    let sql = delete_of p in
    let t = it.table in
    let tree : tree_of s (part_name p) ≡ t.tree = tree_in s p it in
    let is = means p s it in
    let w = runs_as sql [] old new s refl (command.Delete it.at (record { lets = []; body = scanning t.tree })) is.command is.plain count ran in
    let done = takes.clears t s it.at it.finds.has it.finds.stored (subst (IsUnreferred s) tree alone) old.step_limit
    (statement_of sql (understood s sql)) old.now.trees new.now w.tally w.changed in
    record {
      schema = done.1;
      others = subst (λ n. AllByRecursion (λ (u : Table). u.tree ≢ n → new.now.trees u.tree ≡ old.now.trees u.tree) s.tables) (sym tree) done.0.others;
    }

pub deleted : (p : DeskPart) (old new : State) (r : Result ℕ Error) → ExecutesInside 0 (delete_of p) [] old new r → OnOk r (Deleted p old new)
deleted p old new (Ok count) h = record { inside = h.1; deletes = λ it alone. deletes p old new count it alone h.0 }
deleted p old new (Err e) h = tt

-- ---- the SELECT

pub rows_shown : (p : DeskPart) (old new : State) (r : Result (Vec Row Global) Error) → IsTrue old.in_transaction
    → IfOk r (λ rows. Shown (select_of p) [] old new rows.items) → IfOk r (λ rows. Left p rows.items old new)
rows_shown p old new (Ok rows) inside shown = record {
  mode = (asks_inside (select_of p) [] old new rows.items inside shown).mode;
  same = λ it. (shown_same (select_of p) [] old new rows.items (part_plain old p it) shown).0.now_is;
  shows = λ it. part_shown old new p it (Ok rows) shown;
}
rows_shown p old new (Err e) inside shown = tt

-- ---- both

none_stored : (f : Row → Row) (rows : List Row) → length (map f rows) ≡ 0 → rows ≡ []
none_stored f [] e = refl
none_stored f (r ∷ rows) e = absurd (omega (arith, e))

-- where nothing is shown, the table has no row
bare : (p : DeskPart) (db : Database) (rows : List Row) → ShowsPart p db rows → (length rows == 0) ≡ true → table_in db (part_name p) ≡ []
bare p db rows shows none =
    let empty : length rows ≡ 0 = (Decides-eqb (length rows) 0).0 none in
    let lengths = length_permutation (map (shown_of p) (table_in db (part_name p))) rows shows in
    none_stored (shown_of p) (table_in db (part_name p)) (sym (sym empty ∙ lengths))

pub cleared : (p : DeskPart) (a b c : State) (rows : List Row) → Deleted p a b → Left p rows b c → (length rows == 0) ≡ true → Cleared p a c
cleared p a b c rows gone left none = record {
  was_open = gone.inside.was_open;
  mode = left.mode;
  clears = λ it alone.
      let done = gone.deletes it alone in
      let found : FindsPart b.now.schema p = subst (λ s. FindsPart s p) (sym done.schema) it in
      subst (λ (d : Database). Clears p a.now d) (sym (left.same found))
      (record { schema = done.schema; empty = bare p b.now rows (left.shows found) none; others = done.others });
}

-- ---- several tables

-- another table of the schema
abbrev Other : Schema → DeskPart → DeskPart → Type 0
Other s p q = FindsPart s q × (mark_of p ≢ mark_of q)

none_done : (a : Database) → Empties [] a a
none_done a = record { schema = refl; empty = tt; others = λ t there apart. refl }

module _ (p : DeskPart) (old a b : Database) (it : FindsPart a.schema p) (gone : Clears p a b) where
  all_still : (done : List DeskPart) → AllByRecursion (Other a.schema p) done
      → AllByRecursion (λ q. table_in a (part_name q) ≡ []) done → AllByRecursion (λ q. table_in b (part_name q) ≡ []) done
  all_still [] others empty = tt
  all_still (q ∷ done) others empty = (still p q a b it others.0.0 others.0.1 gone.schema gone.others ∙ empty.0, all_still done others.1 empty.1)

  one_more : (done : List DeskPart) → AllByRecursion (Other a.schema p) done → Empties done old a → Empties (p ∷ done) old b
  one_more done others e = record {
    schema = gone.schema ∙ e.schema;
    empty = (gone.empty, all_still done others e.empty);
    others = λ t there apart. all_has (λ (u : Table). u.tree ≢ tree_of a.schema (part_name p) → b.trees u.tree ≡ a.trees u.tree) a.schema.tables t gone.others
        (subst (λ (s : Schema). Has s.tables t) (sym e.schema) there) (λ same. apart.0 (same ∙ ap (λ s. tree_of s (part_name p)) e.schema))
        ∙ e.others t there apart.1;
  }

-- if the schema stays, an older desk's tables stay
old_still : (a b : Database) → b.schema ≡ a.schema → IsOld a.schema → IsOld b.schema
old_still a b same old = subst IsOld (sym same) old

may_still : (a b : Database) → b.schema ≡ a.schema → IsMigratable a.schema → IsMigratable b.schema
may_still a b same may = subst IsMigratable (sym same) may

pub emptied : (a b c d e : State) → Cleared Names a b → Cleared Parked b c → Cleared Marks c d → Cleared Desk d e → Emptied a e
emptied a b c d e one two three four = record {
  was_open = one.was_open;
  mode = four.mode;
  empties = λ old may.
      let first = one_more Names a.now a.now b.now old.common.names (one.clears old.common.names may.names) [] tt (none_done a.now) in
      let old1 = old_still a.now b.now first.schema old in
      let may1 = may_still a.now b.now first.schema may in
      let second = one_more Parked a.now b.now c.now old1.common.parked (two.clears old1.common.parked may1.parked)
      (Names ∷ []) ((old1.common.names, λ e. omega (arith, e)), tt) first in
      let old2 = old_still a.now c.now second.schema old in
      let may2 = may_still a.now c.now second.schema may in
      let third = one_more Marks a.now c.now d.now old2.marks (three.clears old2.marks may2.marks) (Parked ∷ Names ∷ [])
      ((old2.common.parked, λ e. omega (arith, e)), ((old2.common.names, λ e. omega (arith, e)), tt)) second in
      let old3 = old_still a.now d.now third.schema old in
      let may3 = may_still a.now d.now third.schema may in
      one_more Desk a.now d.now e.now old3.common.desk (four.clears old3.common.desk may3.desk) (Marks ∷ Parked ∷ Names ∷ [])
      ((old3.marks, λ e. omega (arith, e)), ((old3.common.parked, λ e. omega (arith, e)), ((old3.common.names, λ e. omega (arith, e)), tt))) third;
}
