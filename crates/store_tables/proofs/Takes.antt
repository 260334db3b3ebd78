-- What a DELETE by the name does to the rows of its table.
use Rattle.std.proofs.Common.{◌≡◌, ◌≢◌, ℕ, ◌^◌, nat_le, List, [], ◌∷◌, length, ◌==◌, ◌||◌, Bool, true, false, Option}
use Rattle.std.proofs.Common.{Some, None, option_and_then, option_map, slice_get, Ok, refl, sym, ap, subst, ◌∙◌}
use Rattle.std.specs.List.{AllByRecursion, filter_map, flat_map, list_any}
use Rattle.sqlite.specs.declared.types.Value.{Value}
use Rattle.sqlite.specs.declared.types.Value.TheVariants.{Null}
use Rattle.sqlite.specs.Order.{Row, column}
use Rattle.sqlite.specs.Term.{col}
use Rattle.sqlite.specs.Command.TheVariants as command
use Rattle.sqlite.specs.Edit.{Edit, edit_of, without_all, taken_by}
use Rattle.sqlite.specs.Rowids.TheVariants.{Given}
use Rattle.sqlite.specs.Does.{Tally, Does}
use Rattle.sqlite.specs.Rows.{Written}
use Rattle.sqlite.specs.Schema.{Schema}
use Rattle.sqlite.specs.Table.{Table}
use Rattle.sqlite.specs.Tree.{Trees}
use Rattle.sqlite.specs.Effect.{Database}
use Rattle.sqlite_rules.specs.Calls.{ids_of}
use Rattle.sqlite_rules.specs.Lists.{Has}
use Rattle.sqlite_rules.specs.Action.{work_by, work_for, works, deed_for, pairs}
use Rattle.sqlite_rules.specs.declared.action.Deed.{Deed}
use Rattle.sqlite_schema.specs.declared.schema.Keys.{Keys}
use Rattle.sqlite_schema.specs.declared.schema.Keys.TheVariants.{Enforced}
use Rattle.sqlite_schema.specs.declared.schema.Column.{Column}
use Rattle.sqlite_schema.specs.declared.schema.Reference.{Reference}
use Rattle.sqlite_schema.specs.Rules.{ParentKey, declared_order, key_in, key_places, parent_key}
use Rattle.sqlite_resolve.specs.Scope.{Name}
use Rattle.sqlite_value.specs.declared.keys.Order.{Order}
use Rattle.sqlite.proofs.Callers.{one_step}
use Rattle.messages.specs.declared.request_name.RequestName.{RequestName}
use Rattle.store_tables.specs.Rows.{IsRow, OfName}
use Rattle.store_tables.specs.Stored.{IsUnreferred, is_in, parent_of}
use Rattle.store_tables.specs.Kept.{IsKeyed, IsNoReal}
use Rattle.store_tables.specs.private.Changes.{Loses}
use Rattle.store_tables.proofs.Steps.{went, same_value, mode}
use Rattle.store_tables.proofs.Puts.{keyed_at}
use Rattle.store_tables.proofs.Where.{reading, scanning}
use Rattle.store_tables.proofs.NameLemmas.{answered, answers, given, keyed_less, loses_name, none_left, scanned}

-- ---- no foreign key acts

-- whether a reference has its key in the table of this tree
abbrev is_key_in : Option ParentKey → ℕ → Bool
is_key_in None tree = false
is_key_in (Some key) tree = key.0 == tree

-- a reference to another table has its key there
ordered_in : (t : Table) (places : List ℕ) (tree : ℕ) (o : Option Order)
    → (t.tree == tree) ≡ false → is_key_in (option_map (λ o. (t.tree, places, o)) o) tree ≡ false
ordered_in t places tree None apart = refl
ordered_in t places tree (Some o) apart = apart

keyed_in : (t : Table) (tree : ℕ) (o : Option (List ℕ)) → (t.tree == tree) ≡ false → is_key_in (option_and_then (key_in t) o) tree ≡ false
keyed_in t tree None apart = refl
keyed_in t tree (Some places) apart = ordered_in t places tree (declared_order t places) apart

parent_in : (columns : List Name) (tree : ℕ) (o : Option Table) → is_in o tree ≡ false
    → is_key_in (option_and_then (λ (t : Table). option_and_then (key_in t) (key_places t columns)) o) tree ≡ false
parent_in columns tree None apart = refl
parent_in columns tree (Some t) apart = keyed_in t tree (key_places t columns) apart

-- a key in another table is not lost here
no_work : (depth tree : ℕ) (moves : List (Row × Row)) (child : Table) (ref : Reference) (deed : Option Deed) (key : Option ParentKey)
    → is_key_in key tree ≡ false → work_by depth tree moves child ref deed key ≡ None
no_work depth tree moves child ref None key none = refl
no_work depth tree moves child ref (Some deed) None none = refl
no_work depth tree moves child ref (Some deed) (Some key) none = rw none refl

none_here : (a b : Bool) → (a || b) ≡ false → (a ≡ false) × (b ≡ false)
none_here true b h = absurd cc
none_here false b h = (refl, h)

-- where no foreign key refers to the table, none acts
pub no_works_to : (s : Schema) (keys : Keys) (depth tree : ℕ) (olds news : List Row) → IsUnreferred s tree → works s keys depth tree olds news ≡ []
no_works_to s keys depth tree olds news alone = tables s.tables alone
  where
    refs : (child : Table) (rs : List Reference) → list_any (λ ref. is_in (parent_of s.tables ref) tree) rs ≡ false
        → filter_map (work_for s keys depth tree olds news child) rs ≡ []
    refs child [] all = refl
    refs child (r ∷ rs) all =
        let both = none_here (is_in (parent_of s.tables r) tree) _ all in
        rw (no_work depth tree (pairs olds news) child r (deed_for keys (length news == 0) r) (parent_key s.tables r)
        (parent_in r.parent_columns tree (parent_of s.tables r) both.0)) (refs child rs both.1)

    tables : (ts : List Table) → list_any (λ (t : Table). list_any (λ ref. is_in (parent_of s.tables ref) tree) t.references) ts ≡ false
        → flat_map (λ child. filter_map (work_for s keys depth tree olds news child) child.references) ts ≡ []
    tables [] all = refl
    tables (t ∷ ts) all =
        let both = none_here (list_any (λ ref. is_in (parent_of s.tables ref) tree) t.references) _ all in
        rw (refs t t.references both.0) (tables ts both.1)

-- exactly the rows of the name were taken out, and each other table keeps its rows
pub record Takes (s : Schema) (tree at : ℕ) (name : RequestName) (old new : Trees) : Type 0 where
  pub lost : IsKeyed (old tree) → Loses (OfName at name) (IsRow (old tree)) (IsRow (new tree))
  pub keyed : IsKeyed (old tree) → IsKeyed (new tree)
  pub others : AllByRecursion (λ (t : Table). t.tree ≢ tree → new t.tree ≡ old t.tree) s.tables

module _ (table : List ℕ) (columns : List Column) (key : List ℕ) (tree : ℕ) where
  abbrev t : Table
  t = keyed_at table columns key tree

  pub takes : (s : Schema) (place at : ℕ) (name : RequestName) → slice_get s.tables place ≡ Some t → nat_le (2 ^ 31) tree ≡ false
      → IsUnreferred s tree → (limit : Option ℕ) (stmt : List ℕ) (old : Trees) (after : Database) (tally : Tally)
      → ((values : List Value) → IsRow (old tree) values → IsNoReal (column values (Rattle.std.proofs.Common.suc at))) → Does limit mode (given name at)
      (record { schema = s; trees = old }) stmt None (command.Delete place (record { lets = []; body = reading tree at (col 1 0 ∷ []) })) (Ok (tally, after))
      → Takes s tree at name old after.trees × (after.schema ≡ s)
  takes s place at name has low alone limit stmt old after tally plain does' =
      let does = rw has at does' in
      let done = went does in
      let last = same_value (went (went done.2).2).2 in
      let found = went done.1 in
      let written = went found.2 in
      let trees : after.trees ≡ written.0 = ap (λ (p : Tally × Database). p.1.trees) last ∙ ap (λ (it : Written). it.trees) (same_value written.2) in
      let edit : Edit = edit_of old t (ids_of found.0) Given 0 [] in
      let step = one_step s Enforced old written.0 edit (no_works_to s Enforced 0 tree (taken_by old edit) edit.news alone) written.1 in
      let left : after.trees tree ≡ without_all (old tree) (ids_of found.0) = ap (λ (db : Trees). db tree) trees ∙ step.rows in
      let answer = found.1.answer Null in (
        record {
          lost = λ keyed. subst (λ rows. Loses (OfName at name) (IsRow (old tree)) (IsRow rows)) (sym left) (loses_name name at (old tree) found.0 keyed
              (answered name at tree (col 1 0 ∷ []) old low plain found.0 answer) (answers name at tree (col 1 0 ∷ []) old low plain found.0 answer));
          keyed = λ keyed. subst IsKeyed (sym left) (keyed_less (old tree) (ids_of found.0) keyed);
          others = subst (λ (db : Trees). AllByRecursion (λ (u : Table). u.tree ≢ tree → db u.tree ≡ old u.tree) s.tables) (sym trees) step.tables;
        },
        ap (λ (p : Tally × Database). p.1.schema) last,
      )

-- no row is left, and each other table keeps its rows
pub record Clears (s : Schema) (tree : ℕ) (old new : Trees) : Type 0 where
  pub none : IsKeyed (old tree) → (x : Row) → ¬ Has (new tree) x
  pub others : AllByRecursion (λ (t : Table). t.tree ≢ tree → new t.tree ≡ old t.tree) s.tables

module _ (t : Table) where
  abbrev tree : ℕ
  tree = t.tree

  pub clears : (s : Schema) (place : ℕ) → slice_get s.tables place ≡ Some t → nat_le (2 ^ 31) tree ≡ false → IsUnreferred s tree
      → (limit : Option ℕ) (stmt : List ℕ) (old : Trees) (after : Database) (tally : Tally) → Does limit mode [] (record { schema = s; trees = old }) stmt None
      (command.Delete place (record { lets = []; body = scanning tree })) (Ok (tally, after)) → Clears s tree old after.trees × (after.schema ≡ s)
  clears s place has low alone limit stmt old after tally does' =
      let does = rw has at does' in
      let done = went does in
      let last = same_value (went (went done.2).2).2 in
      let found = went done.1 in
      let written = went found.2 in
      let trees : after.trees ≡ written.0 = ap (λ (p : Tally × Database). p.1.trees) last ∙ ap (λ (it : Written). it.trees) (same_value written.2) in
      let edit : Edit = edit_of old t (ids_of found.0) Given 0 [] in
      let step = one_step s Enforced old written.0 edit (no_works_to s Enforced 0 tree (taken_by old edit) edit.news alone) written.1 in
      let left : after.trees tree ≡ without_all (old tree) (ids_of found.0) = ap (λ (db : Trees). db tree) trees ∙ step.rows in (
        record {
          none = λ keyed x there.
              none_left (old tree) found.0 keyed (scanned tree old low found.0 (found.1.answer Null)) x (subst (λ rows. Has rows x) left there);
          others = subst (λ (db : Trees). AllByRecursion (λ (u : Table). u.tree ≢ tree → db u.tree ≡ old u.tree) s.tables) (sym trees) step.tables;
        },
        ap (λ (p : Tally × Database). p.1.schema) last,
      )
