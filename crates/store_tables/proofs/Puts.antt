-- What an INSERT of one row of values does to the rows of its table.
use Rattle.std.proofs.Common.{◌≡◌, ◌≢◌, ◌⊎◌, inl, inr, ℕ, ℤ, List, [], ◌∷◌, ◌/◌, length, map, drop, true}
use Rattle.std.proofs.Common.{Option, Some, None, slice_get, Ok, refl, sym, ap, subst, ◌∙◌, append-nil, codes}
use Rattle.std.specs.List.{AllByRecursion}
use Rattle.sqlite.specs.declared.types.Value.{Value}
use Rattle.sqlite.specs.declared.types.Value.TheVariants.{Null, Int, Text}
use Rattle.sqlite.specs.Order.{Row}
use Rattle.sqlite.specs.Term.{Term}
use Rattle.sqlite.specs.Source.TheVariants.{Values}
use Rattle.sqlite.specs.Command.TheVariants as command
use Rattle.sqlite.specs.Edit.{Edit, edit_of, next_rowid, numbered, put_all, are_fresh}
use Rattle.sqlite.specs.Rowids.TheVariants.{Chosen}
use Rattle.sqlite.specs.Does.{Tally, Does}
use Rattle.sqlite.specs.Rows.{Written}
use Rattle.sqlite.specs.Schema.{Schema}
use Rattle.sqlite.specs.Table.{Table}
use Rattle.sqlite.specs.Tree.{Trees}
use Rattle.sqlite.specs.Cast.{cast, cast_row}
use Rattle.sqlite.specs.Ops.{unary}
use Rattle.sqlite.specs.Kind.TheVariants.{Integer}
use Rattle.sqlite.specs.Effect.{Database, value_rows}
use Rattle.sqlite_rules.specs.Lists.{Has}
use Rattle.sqlite_rules.proofs.TableLemmas.{put_all_has, put_all_keeps, put_all_adds}
use Rattle.sqlite_schema.specs.declared.schema.Keys.TheVariants.{Enforced}
use Rattle.sqlite.proofs.Callers.{one_step}
use Rattle.sqlite_schema.specs.declared.schema.Column.{Column}
use Rattle.store_tables.specs.DeskTables.{keyed, messages, names, verdicts, parked}
use Rattle.store_tables.specs.Rows.{IsRow}
use Rattle.store_tables.specs.private.Changes.{Gains}
use Rattle.store_tables.proofs.Steps.{went, same_value, no_works, mode}
use Rattle.store_tables.proofs.AddLemmas.{cast_null, either}
use Rattle.store_tables.proofs.Inserts.{text_terms, name_terms, verdict_terms, parked_terms}

pub cast_int : (n : ℤ) → cast Integer (Int n) ≡ Int n
unfolding unary
cast_int n = either _ (Int n)

behind : (a b : Value) (r values : List Value) → ◌≡◌ {A = List Value} (a ∷ r) (b ∷ values) → r ≡ values
behind a b r values e = cc

-- A row that was inserted with a fresh rowid is one more row.
pub one_more : (n : ℤ) (values : List Value) (old new : List Row) → are_fresh old ((Int n ∷ values) ∷ []) ≡ true
    → new ≡ put_all old ((Int n ∷ values) ∷ []) → Gains values (IsRow old) (IsRow new)
one_more n values old new fresh is = record { each = each; kept = kept; there = there }
  where
    row : Row
    row = Int n ∷ values

    each : (r : List Value) → IsRow new r → IsRow old r ⊎ (r ≡ values)
    each r (id, has) = elim (put_all_has (row ∷ []) old (id ∷ r) (subst (λ rows. Has rows (id ∷ r)) is has)) [
      | inl put ↦ elim put [ inl same ↦ inr (behind id (Int n) r values same) | inr none ↦ absurd none ]
      | inr was ↦ inl (id, was)
    ]

    kept : (r : List Value) → IsRow old r → IsRow new r
    kept r (id, has) = (id, subst (λ rows. Has rows (id ∷ r)) (sym is) (put_all_keeps (row ∷ []) old (id ∷ r) fresh has))

    there : IsRow new values
    there = (Int n, subst (λ rows. Has rows row) (sym is) (put_all_adds (row ∷ []) old row fresh (inl refl)))

-- the table has the row, after a fresh rowid, and each other table keeps its rows
pub record Puts (s : Schema) (tree : ℕ) (values : List Value) (old new : Trees) : Type 0 where
  pub n : ℤ
  pub fresh : are_fresh (old tree) ((Int n ∷ values) ∷ []) ≡ true
  pub rows : new tree ≡ put_all (old tree) ((Int n ∷ values) ∷ [])
  pub others : AllByRecursion (λ (t : Table). t.tree ≢ tree → new t.tree ≡ old t.tree) s.tables

-- a table whose key is over these columns, with its rows in this tree
abbrev pub keyed_at : List ℕ → List Column → List ℕ → ℕ → Table
keyed_at name columns key tree = record (keyed name columns key) { tree = tree }

-- the values are kept as they are given
abbrev pub AreKept : List ℕ → List Column → List ℕ → List Term → ℕ → (params values : Row) → Type 0
AreKept name columns key terms width params values =
    map (λ r. cast_row (keyed_at name columns key 0) (drop 0 r)) (value_rows params width (length terms / width) terms) ≡ (Null ∷ values) ∷ []

module _ (name : List ℕ) (columns : List Column) (key : List ℕ) (tree : ℕ) where
  abbrev t : Table
  t = keyed_at name columns key tree

  pub puts : (s : Schema) (at : ℕ) (terms : List Term) (width : ℕ) (params values : Row) → AreKept name columns key terms width params values
      → slice_get s.tables at ≡ Some t → (limit : Option ℕ) (stmt : List ℕ) (old : Trees) (after : Database) (tally : Tally)
      → Does limit mode params (record { schema = s; trees = old }) stmt None (command.Insert at (Values terms width)) (Ok (tally, after))
      → Puts s tree values old after.trees × (after.schema ≡ s)
  puts s at terms width params values kept has limit stmt old after tally does' =
      let does = rw (has, append-nil params) at does' in
      let done = went does in
      let last = same_value (went (went done.2).2).2 in
      let given = went done.1 in
      let written = went (went given.2).2 in
      let counted = went written.2 in
      let trees : after.trees ≡ written.0 =
      ap (λ (p : Tally × Database). p.1.trees) last ∙ ap (λ (it : Written). it.trees) (same_value counted.2) ∙ same_value counted.1 in
      let edit : Edit = edit_of old t [] Chosen 0 given.0 in
      let step = one_step s Enforced old written.0 edit (no_works s Enforced 0 tree edit.news) written.1 in
      let row : Row = Int (next_rowid (old tree)) ∷ values in
      let news : edit.news ≡ row ∷ [] = ap (λ all. (edit_of old t [] Chosen 0 all).news) given.1.1 ∙ ap (numbered Chosen (old tree)) kept in (
        record {
          n = next_rowid (old tree);
          fresh = subst (λ ns. are_fresh (old tree) ns ≡ true) news step.fresh;
          rows = ap (λ (db : Trees). db tree) trees ∙ step.rows ∙ ap (put_all (old tree)) news;
          others = subst (λ (db : Trees). AllByRecursion (λ (u : Table). u.tree ≢ tree → db u.tree ≡ old u.tree) s.tables) (sym trees) step.tables;
        },
        ap (λ (p : Tally × Database). p.1.schema) last,
      )

-- ---- the tables

pub text_kept : (t : List ℕ) → AreKept (codes "messages") messages.columns messages.primary text_terms 2 (Text t ∷ []) (Text t ∷ [])
text_kept t = rw cast_null refl

pub name_kept : (a b : List ℕ) (n d : ℤ)
    → AreKept (codes "names") names.columns names.primary name_terms 5 (Text a ∷ Int n ∷ Text b ∷ Int d ∷ []) (Text a ∷ Int n ∷ Text b ∷ Int d ∷ [])
name_kept a b n d = rw (cast_null, cast_int n, cast_int d) refl

pub verdict_kept : (a p k : List ℕ) (n m : ℤ) → AreKept (codes "verdicts") verdicts.columns verdicts.primary verdict_terms 6
    (Text a ∷ Int n ∷ Text p ∷ Text k ∷ Int m ∷ []) (Text a ∷ Int n ∷ Text p ∷ Text k ∷ Int m ∷ [])
verdict_kept a p k n m = rw (cast_null, cast_int n, cast_int m) refl

pub parked_kept : (b a : List ℕ) (n : ℤ)
    → AreKept (codes "parked") parked.columns parked.primary parked_terms 4 (Text b ∷ Text a ∷ Int n ∷ []) (Text b ∷ Text a ∷ Int n ∷ [])
parked_kept b a n = rw (cast_null, cast_int n) refl
