-- What each statement of a transaction does to a desk's tables.
use Rattle.std.proofs.Common.{ne_eqb, not, length, ◌≡◌, ◌≢◌, ◌⊎◌, inl, inr, ℕ, suc, pos, List, [], ◌∷◌, codes, Bool, true}
use Rattle.std.proofs.Common.{false, if◌then◌else◌, Some, find, ◌==◌, slice_index_or, Ok, refl, sym, ap, subst, ◌∙◌, arith}
use Rattle.std.specs.List.{list_any}
use Rattle.sqlite.specs.declared.types.Value.{Value}
use Rattle.sqlite.specs.declared.types.Value.TheVariants.{Null, Int, Text}
use Rattle.sqlite.specs.Order.{Row, column}
use Rattle.sqlite.specs.Term.{col}
use Rattle.sqlite.specs.Source.TheVariants.{Values}
use Rattle.sqlite.specs.Command.TheVariants as command
use Rattle.sqlite.specs.Schema.{Schema}
use Rattle.sqlite.specs.Table.{Table}
use Rattle.sqlite.specs.Tree.{Trees}
use Rattle.sqlite.specs.Effect.{Database, IsDatabase}
use Rattle.sqlite.specs.Listing.{understood}
use Rattle.sqlite.specs.State.{State, Executes, Shown}
use Rattle.sqlite.proofs.Callers.{statement_of, reads_as, runs_as}
use Rattle.messages.specs.declared.request_name.RequestName.{RequestName}
use Rattle.store_tables.specs.DeskTables.{messages, names, verdicts, parked}
use Rattle.store_tables.specs.Rows.{RowSet, IsRow, OfName}
use Rattle.store_tables.specs.Stored.{Finds, HasDesk, is_stray, row_texts, tree_of}
use Rattle.store_tables.specs.Kept.{IsKeyed, IsNeat, IsNoReal, IsTidy, table_in}
use Rattle.store_tables.specs.private.Changes.{Gains, Loses, Tells}
use Rattle.store_tables.specs.Steps.{KeepsBut}
use Rattle.store_tables.specs.private.Stepping.{AddsText, Alters, ShowsParked}
use Rattle.store_tables.proofs.AddLemmas.{all_at, text_more, typed_still}
use Rattle.store_tables.proofs.Inserts.{name_insert, name_put, name_terms, parked_insert, parked_put, parked_terms}
use Rattle.store_tables.proofs.Inserts.{text_insert, text_put, text_terms, verdict_insert, verdict_put, verdict_terms}
use Rattle.store_tables.proofs.NameLemmas.{answered, answers, given, keyed_more}
use Rattle.store_tables.proofs.Puts.{name_kept, one_more, parked_kept, puts, text_kept, verdict_kept, Puts}
use Rattle.store_tables.proofs.Takes.{takes}
use Rattle.store_tables.proofs.Where.{names_delete}
use Rattle.store_tables.proofs.Where.{names_deletes, names_select, names_selects, parked_delete, parked_deletes, parked_select, parked_selects, reading}
use Rattle.sqlite_rules.specs.Lists.{Has}

-- ---- tables of different names

-- two tables whose names begin differently have two trees
pub apart : (s : Schema) (name other : List ℕ) (a b : ℕ) (t u : Table) → Finds s name a t
    → Finds s other b u → slice_index_or t.name 0 0 ≢ slice_index_or u.name 0 0 → t.tree ≢ u.tree
apart s name other a b t u one two differ same =
    let both : Some t ≡ Some u = sym one.by_tree ∙ ap (λ n. find (λ (v : Table). v.tree == n) s.tables) same ∙ two.by_tree in
    let is : t ≡ u = cc in
    differ (ap (λ (v : Table). slice_index_or v.name 0 0) is)

-- a table that is found keeps its rows where only another one is changed
pub kept : (name other : List ℕ) (old new : Database) (a b : ℕ) (t u : Table) → Finds old.schema name a t
    → t.tree ≡ tree_of old.schema name → Finds old.schema other b u → u.tree ≡ tree_of old.schema other
    → slice_index_or t.name 0 0 ≢ slice_index_or u.name 0 0 → new.schema ≡ old.schema → KeepsBut name old new → table_in new other ≡ table_in old other
kept name other old new a b t u one is two its differ schema others =
    let same = all_at (λ (v : Table). v.tree ≢ tree_of old.schema name → new.trees v.tree ≡ old.trees v.tree) old.schema.tables b u two.has others
    (λ e. apart old.schema name other a b t u one two differ (is ∙ sym e)) in
    ap (λ s. new.trees (tree_of s other)) schema ∙ ap (λ n. new.trees n) (sym its) ∙ same ∙ ap (λ n. old.trees n) its

-- ---- a desk's tables stay tidy

desk_still : (old new : Database) → new.schema ≡ old.schema → HasDesk old.schema → HasDesk new.schema
desk_still old new same desk = subst HasDesk (sym same) desk

-- the table is neat where its rows are those of a neat one
neat_as : (at : ℕ) (old new : List Row) → new ≡ old → IsNeat at old → IsNeat at new
neat_as at old new same neat = subst (IsNeat at) (sym same) neat

keyed_as : (old new : List Row) → new ≡ old → IsKeyed old → IsKeyed new
keyed_as old new same keyed = subst IsKeyed (sym same) keyed

neat_more : (at : ℕ) (values : List Value) (old new : List Row) → IsNoReal (column values at)
    → Gains values (IsRow old) (IsRow new) → (IsKeyed old → IsKeyed new) → IsNeat at old → IsNeat at new
neat_more at values old new plain gains keyed neat = record {
  keyed = keyed neat.keyed;
  whole = λ r there. elim (gains.each r there) [ inl before ↦ neat.whole r before | inr is ↦ subst (λ v. IsNoReal (column v at)) (sym is) plain ];
}

neat_less : (at : ℕ) (Gone : RowSet) (old new : List Row) → Loses Gone (IsRow old) (IsRow new) → (IsKeyed old → IsKeyed new) → IsNeat at old → IsNeat at new
neat_less at Gone old new loses keyed neat = record { keyed = keyed neat.keyed; whole = λ r there. neat.whole r (loses.each r there).0 }

module _ (old new : Database) (tidy : IsTidy old) (schema : new.schema ≡ old.schema) where
  at_new : (name : List ℕ) → table_in new name ≡ new.trees (tree_of old.schema name)
  at_new name = ap (λ s. new.trees (tree_of s name)) schema

  names_still : KeepsBut (codes "verdicts") old new ⊎ (KeepsBut (codes "parked") old new ⊎ KeepsBut (codes "messages") old new)
      → table_in new (codes "names") ≡ table_in old (codes "names")
  names_still (inl others) =
      kept (codes "verdicts") (codes "names") old new _ _ _ _ tidy.desk.verdicts refl tidy.desk.names refl (λ e. omega (arith, e)) schema others
  names_still (inr (inl others)) =
      kept (codes "parked") (codes "names") old new _ _ _ _ tidy.desk.parked refl tidy.desk.names refl (λ e. omega (arith, e)) schema others
  names_still (inr (inr others)) =
      kept (codes "messages") (codes "names") old new _ _ _ _ tidy.desk.messages refl tidy.desk.names refl (λ e. omega (arith, e)) schema others

  parked_still : KeepsBut (codes "verdicts") old new ⊎ (KeepsBut (codes "names") old new ⊎ KeepsBut (codes "messages") old new)
      → table_in new (codes "parked") ≡ table_in old (codes "parked")
  parked_still (inl others) =
      kept (codes "verdicts") (codes "parked") old new _ _ _ _ tidy.desk.verdicts refl tidy.desk.parked refl (λ e. omega (arith, e)) schema others
  parked_still (inr (inl others)) =
      kept (codes "names") (codes "parked") old new _ _ _ _ tidy.desk.names refl tidy.desk.parked refl (λ e. omega (arith, e)) schema others
  parked_still (inr (inr others)) =
      kept (codes "messages") (codes "parked") old new _ _ _ _ tidy.desk.messages refl tidy.desk.parked refl (λ e. omega (arith, e)) schema others

  verdicts_still : KeepsBut (codes "names") old new ⊎ (KeepsBut (codes "parked") old new ⊎ KeepsBut (codes "messages") old new)
      → table_in new (codes "verdicts") ≡ table_in old (codes "verdicts")
  verdicts_still (inl others) =
      kept (codes "names") (codes "verdicts") old new _ _ _ _ tidy.desk.names refl tidy.desk.verdicts refl (λ e. omega (arith, e)) schema others
  verdicts_still (inr (inl others)) =
      kept (codes "parked") (codes "verdicts") old new _ _ _ _ tidy.desk.parked refl tidy.desk.verdicts refl (λ e. omega (arith, e)) schema others
  verdicts_still (inr (inr others)) =
      kept (codes "messages") (codes "verdicts") old new _ _ _ _ tidy.desk.messages refl tidy.desk.verdicts refl (λ e. omega (arith, e)) schema others

  -- ---- each of the three tables

  pub names_altered : (Rows : RowSet → RowSet → Type 0) → IsDatabase new
      → Rows (IsRow (table_in old (codes "names"))) (IsRow (new.trees (tree_of old.schema (codes "names")))) → KeepsBut (codes "names") old new
      → IsNeat 1 (new.trees (tree_of old.schema (codes "names"))) → Alters (codes "names") Rows old new
  names_altered Rows sound rows others neat = record {
    sound = sound;
    schema = schema;
    rows = subst (λ x. Rows (IsRow (table_in old (codes "names"))) (IsRow x)) (sym (at_new (codes "names"))) rows;
    others = others;
    tidy = record {
      desk = desk_still old new schema tidy.desk;
      names = neat_as 1 _ _ (at_new (codes "names")) neat;
      verdicts = keyed_as _ _ (verdicts_still (inl others)) tidy.verdicts;
      parked = neat_as 2 _ _ (parked_still (inr (inl others))) tidy.parked;
    };
  }

  pub parked_altered : (Rows : RowSet → RowSet → Type 0) → IsDatabase new
      → Rows (IsRow (table_in old (codes "parked"))) (IsRow (new.trees (tree_of old.schema (codes "parked")))) → KeepsBut (codes "parked") old new
      → IsNeat 2 (new.trees (tree_of old.schema (codes "parked"))) → Alters (codes "parked") Rows old new
  parked_altered Rows sound rows others neat = record {
    sound = sound;
    schema = schema;
    rows = subst (λ x. Rows (IsRow (table_in old (codes "parked"))) (IsRow x)) (sym (at_new (codes "parked"))) rows;
    others = others;
    tidy = record {
      desk = desk_still old new schema tidy.desk;
      names = neat_as 1 _ _ (names_still (inr (inl others))) tidy.names;
      verdicts = keyed_as _ _ (verdicts_still (inr (inl others))) tidy.verdicts;
      parked = neat_as 2 _ _ (at_new (codes "parked")) neat;
    };
  }

  pub verdicts_altered : (Rows : RowSet → RowSet → Type 0) → IsDatabase new
      → Rows (IsRow (table_in old (codes "verdicts"))) (IsRow (new.trees (tree_of old.schema (codes "verdicts")))) → KeepsBut (codes "verdicts") old new
      → IsKeyed (new.trees (tree_of old.schema (codes "verdicts"))) → Alters (codes "verdicts") Rows old new
  verdicts_altered Rows sound rows others keyed = record {
    sound = sound;
    schema = schema;
    rows = subst (λ x. Rows (IsRow (table_in old (codes "verdicts"))) (IsRow x)) (sym (at_new (codes "verdicts"))) rows;
    others = others;
    tidy = record {
      desk = desk_still old new schema tidy.desk;
      names = neat_as 1 _ _ (names_still (inl others)) tidy.names;
      verdicts = keyed_as _ _ (at_new (codes "verdicts")) keyed;
      parked = neat_as 2 _ _ (parked_still (inl others)) tidy.parked;
    };
  }

-- ---- the INSERTs

more_rows : (s : Schema) (tree : ℕ) (values : List Value) (old new : Trees) → Puts s tree values old new → Gains values (IsRow (old tree)) (IsRow (new tree))
more_rows s tree values old new it = one_more it.n values (old tree) (new tree) it.fresh it.rows

keyed_still : (s : Schema) (tree : ℕ) (values : List Value) (old new : Trees) → Puts s tree values old new → IsKeyed (old tree) → IsKeyed (new tree)
keyed_still s tree values old new it = keyed_more it.n values (old tree) (new tree) it.fresh it.rows

pub name_wrote : (asker body : List ℕ) (n : ℕ) (d : Bool) (old new : State) (count : ℕ) → IsTidy old.now
    → Executes name_insert (Text asker ∷ Int (pos n) ∷ Text body ∷ Int (if d then pos 1 else pos 0) ∷ []) old new (Ok count)
    → Alters (codes "names") (Gains (Text asker ∷ Int (pos n) ∷ Text body ∷ Int (if d then pos 1 else pos 0) ∷ [])) old.now new.now
name_wrote asker body n d old new count tidy ran =
    let s = old.now.schema in
    let db = old.now.trees in
    let tree = tree_of s (codes "names") in
    let values = Text asker ∷ Int (pos n) ∷ Text body ∷ Int (if d then pos 1 else pos 0) ∷ [] in
    let means = name_put s tidy.desk.n tree tidy.desk.names in
    let w = runs_as name_insert values old new s refl (command.Insert tidy.desk.n (Values name_terms 5)) means.command means.plain count ran in
    let it = puts (codes "names") names.columns names.primary tree s tidy.desk.n name_terms 5 values values (name_kept asker body (pos n)
    (if d then pos 1 else pos 0)) tidy.desk.names.has old.step_limit (statement_of name_insert (understood s name_insert)) db new.now w.tally w.changed in
    let gains = more_rows s tree values db new.now.trees it.0 in
    names_altered old.now new.now tidy it.1 (Gains values) w.sound gains it.0.others
    (neat_more 1 values (db tree) (new.now.trees tree) tt gains (keyed_still s tree values db new.now.trees it.0) tidy.names)

pub verdict_wrote : (asker person kind : List ℕ) (n at : ℕ) (old new : State) (count : ℕ) → IsTidy old.now
    → Executes verdict_insert (Text asker ∷ Int (pos n) ∷ Text person ∷ Text kind ∷ Int (pos at) ∷ []) old new (Ok count)
    → Alters (codes "verdicts") (Gains (Text asker ∷ Int (pos n) ∷ Text person ∷ Text kind ∷ Int (pos at) ∷ [])) old.now new.now
verdict_wrote asker person kind n at old new count tidy ran =
    let s = old.now.schema in
    let db = old.now.trees in
    let tree = tree_of s (codes "verdicts") in
    let values = Text asker ∷ Int (pos n) ∷ Text person ∷ Text kind ∷ Int (pos at) ∷ [] in
    let means = verdict_put s tidy.desk.v tree tidy.desk.verdicts in
    let w = runs_as verdict_insert values old new s refl (command.Insert tidy.desk.v (Values verdict_terms 6)) means.command means.plain count ran in
    let it = puts (codes "verdicts") verdicts.columns verdicts.primary tree s tidy.desk.v verdict_terms 6 values values (verdict_kept asker person kind
    (pos n) (pos at)) tidy.desk.verdicts.has old.step_limit (statement_of verdict_insert (understood s verdict_insert)) db new.now w.tally w.changed in
    verdicts_altered old.now new.now tidy it.1 (Gains values) w.sound
    (more_rows s tree values db new.now.trees it.0) it.0.others (keyed_still s tree values db new.now.trees it.0 tidy.verdicts)

pub parked_wrote : (body asker : List ℕ) (n : ℕ) (old new : State) (count : ℕ) → IsTidy old.now
    → Executes parked_insert (Text body ∷ Text asker ∷ Int (pos n) ∷ []) old new (Ok count)
    → Alters (codes "parked") (Gains (Text body ∷ Text asker ∷ Int (pos n) ∷ [])) old.now new.now
parked_wrote body asker n old new count tidy ran =
    let s = old.now.schema in
    let db = old.now.trees in
    let tree = tree_of s (codes "parked") in
    let values = Text body ∷ Text asker ∷ Int (pos n) ∷ [] in
    let means = parked_put s tidy.desk.p tree tidy.desk.parked in
    let w = runs_as parked_insert values old new s refl (command.Insert tidy.desk.p (Values parked_terms 4)) means.command means.plain count ran in
    let it = puts (codes "parked") parked.columns parked.primary tree s tidy.desk.p parked_terms 4 values values (parked_kept body asker (pos n))
    tidy.desk.parked.has old.step_limit (statement_of parked_insert (understood s parked_insert)) db new.now w.tally w.changed in
    let gains = more_rows s tree values db new.now.trees it.0 in
    parked_altered old.now new.now tidy it.1 (Gains values) w.sound gains it.0.others
    (neat_more 2 values (db tree) (new.now.trees tree) tt gains (keyed_still s tree values db new.now.trees it.0) tidy.parked)

-- ---- the DELETEs

pub name_gone : (name : RequestName) (old new : State) (count : ℕ) → IsTidy old.now
    → Executes names_delete (Text name.by ∷ Int (pos name.no) ∷ []) old new (Ok count) → Alters (codes "names") (Loses (OfName 0 name)) old.now new.now
name_gone name old new count tidy ran =
    let s = old.now.schema in
    let db = old.now.trees in
    let tree = tree_of s (codes "names") in
    let means = names_deletes s tidy.desk.n tree tidy.desk.names in
    let w = runs_as names_delete (given name 0) old new s refl
    (command.Delete tidy.desk.n (record { lets = []; body = reading tree 0 (col 1 0 ∷ []) })) means.command means.plain count ran in
    let it = takes (codes "names") names.columns names.primary tree s tidy.desk.n 0 name tidy.desk.names.has tidy.desk.names.stored
    tidy.desk.names_alone old.step_limit (statement_of names_delete (understood s names_delete)) db new.now w.tally tidy.names.whole w.changed in
    let loses = it.0.lost tidy.names.keyed in
    names_altered old.now new.now tidy it.1 (Loses (OfName 0 name)) w.sound loses it.0.others
    (neat_less 1 (OfName 0 name) (db tree) (new.now.trees tree) loses it.0.keyed tidy.names)

pub parked_gone : (name : RequestName) (old new : State) (count : ℕ) → IsTidy old.now
    → Executes parked_delete (Text name.by ∷ Int (pos name.no) ∷ []) old new (Ok count) → Alters (codes "parked") (Loses (OfName 1 name)) old.now new.now
parked_gone name old new count tidy ran =
    let s = old.now.schema in
    let db = old.now.trees in
    let tree = tree_of s (codes "parked") in
    let means = parked_deletes s tidy.desk.p tree tidy.desk.parked in
    let w = runs_as parked_delete (given name 1) old new s refl
    (command.Delete tidy.desk.p (record { lets = []; body = reading tree 1 (col 1 0 ∷ []) })) means.command means.plain count ran in
    let it = takes (codes "parked") parked.columns parked.primary tree s tidy.desk.p 1 name tidy.desk.parked.has tidy.desk.parked.stored
    tidy.desk.parked_alone old.step_limit (statement_of parked_delete (understood s parked_delete)) db new.now w.tally tidy.parked.whole w.changed in
    let loses = it.0.lost tidy.parked.keyed in
    parked_altered old.now new.now tidy it.1 (Loses (OfName 1 name)) w.sound loses it.0.others
    (neat_less 2 (OfName 1 name) (db tree) (new.now.trees tree) loses it.0.keyed tidy.parked)

-- ---- the INSERT of a message

pub text_wrote : (text : List ℕ) (old new : State) (count : ℕ) → IsTidy old.now
    → Executes text_insert (Text text ∷ []) old new (Ok count) → AddsText text old.now new.now
text_wrote text old new count tidy ran =
    let s = old.now.schema in
    let db = old.now.trees in
    let tree = tree_of s (codes "messages") in
    let values = Text text ∷ [] in
    let means = text_put s tidy.desk.m tree tidy.desk.messages in
    let w = runs_as text_insert values old new s refl (command.Insert tidy.desk.m (Values text_terms 2)) means.command means.plain count ran in
    let it = puts (codes "messages") messages.columns messages.primary tree s tidy.desk.m text_terms 2 values values
    (text_kept text) tidy.desk.messages.has old.step_limit (statement_of text_insert (understood s text_insert)) db new.now w.tally w.changed in
    let at = at_new old.now new.now tidy it.1 (codes "messages") in
    record {
      sound = w.sound;
      schema = it.1;
      texts = ap row_texts at ∙ text_more it.0.n text (db tree) (new.now.trees tree) it.0.fresh it.0.rows;
      typed = λ was. ap (list_any is_stray) at ∙ typed_still it.0.n text (db tree) (new.now.trees tree) it.0.fresh it.0.rows was;
      others = it.0.others;
      tidy = record {
        desk = desk_still old.now new.now it.1 tidy.desk;
        names = neat_as 1 _ _ (names_still old.now new.now tidy it.1 (inr (inr it.0.others))) tidy.names;
        verdicts = keyed_as _ _ (verdicts_still old.now new.now tidy it.1 (inr (inr it.0.others))) tidy.verdicts;
        parked = neat_as 2 _ _ (parked_still old.now new.now tidy it.1 (inr (inr it.0.others))) tidy.parked;
      };
    }

-- ---- the SELECTs

abbrev has_any : List Row → Bool
has_any [] = false
has_any (x ∷ more) = true

any_is : (rows : List Row) → has_any rows ≡ not (length rows == 0)
any_is [] = refl
any_is (x ∷ more) = sym (ap not (ne_eqb (suc (length more)) 0 (λ e. omega (arith, e))))

told_by : (name : RequestName) (old rows : List Row)
    → ((x : Row) → Has rows x → (id : Value) × (values : List Value) × Has old (id ∷ values) × OfName 0 name values × (x ≡ column (id ∷ values) 3 ∷ []))
    → ((id : Value) (values : List Value) → Has old (id ∷ values) → OfName 0 name values → Has rows (column (id ∷ values) 3 ∷ []))
    → Tells (IsRow old) name (has_any rows)
told_by name old [] sound complete = λ r there of_name. complete there.0 r there.1 of_name
told_by name old (x ∷ more) sound complete = let it = sound x (inl refl) in (it.1, (it.0, it.2), it.3)

-- whether the query shows a row tells whether the name has one
pub name_told : (name : RequestName) (old new : State) (rows : List Row) → IsTidy old.now
    → Shown names_select (Text name.by ∷ Int (pos name.no) ∷ []) old new rows → Tells (IsRow (table_in old.now (codes "names"))) name (not (length rows == 0))
name_told name old new rows tidy shown =
    let s = old.now.schema in
    let db = old.now.trees in
    let tree = tree_of s (codes "names") in
    let project = col 1 3 ∷ [] in
    let means = names_selects s tidy.desk.n tree tidy.desk.names in
    let answer = (reads_as names_select (given name 0) old new s refl _ means.command means.plain means.unlisted rows shown).answer Null in
    subst (Tells (IsRow (db tree)) name) (any_is rows) (told_by name (db tree) rows (answered name 0 tree project db tidy.desk.names.stored
    tidy.names.whole rows answer) (answers name 0 tree project db tidy.desk.names.stored tidy.names.whole rows answer))

-- the bodies of the parked rows of the name are shown, and no others
pub parked_shown : (name : RequestName) (old new : State) (rows : List Row) → IsTidy old.now
    → Shown parked_select (Text name.by ∷ Int (pos name.no) ∷ []) old new rows → ShowsParked name (IsRow (table_in old.now (codes "parked"))) rows
parked_shown name old new rows tidy shown =
    let s = old.now.schema in
    let db = old.now.trees in
    let tree = tree_of s (codes "parked") in
    let project = col 1 1 ∷ [] in
    let means = parked_selects s tidy.desk.p tree tidy.desk.parked in
    let answer = (reads_as parked_select (given name 1) old new s refl _ means.command means.plain means.unlisted rows shown).answer Null in
    record {
      each = λ x there. let it = answered name 1 tree project db tidy.desk.parked.stored tidy.parked.whole rows answer x there in
          (it.1, (it.0, it.2), it.3, it.4);
      all = λ r there of_name. answers name 1 tree project db tidy.desk.parked.stored tidy.parked.whole rows answer there.0 r there.1 of_name;
    }

-- ---- tables without rows

pub keyed_none : (rows : List Row) → ((x : Row) → ¬ Has rows x) → IsKeyed rows
keyed_none rows none = record { ints = λ r there. absurd (none r there); once = λ a b here there. absurd (none a here) }

pub neat_none : (at : ℕ) (rows : List Row) → ((x : Row) → ¬ Has rows x) → IsNeat at rows
neat_none at rows none = record { keyed = keyed_none rows none; whole = λ r there. absurd (none (there.0 ∷ r) there.1) }
