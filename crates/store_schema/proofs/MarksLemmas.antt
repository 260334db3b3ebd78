-- An older desk's `marks`, empty or missing, stays so where a desk spares the tables of other names.
use Rattle.std.proofs.Common.{◌≡◌, ◌≢◌, inl, inr, ◌==◌, ℕ, zero, suc, List, [], ◌∷◌, codes, Some, find, slice_get, slice_index_or, sym, ap, subst, ◌∙◌, arith}
use Rattle.sqlite.specs.Schema.{Schema}
use Rattle.sqlite.specs.Table.{Table}
use Rattle.sqlite.specs.Tree.{Trees}
use Rattle.sqlite.specs.Effect.{Database}
use Rattle.sqlite_rules.specs.Lists.{Has}
use Rattle.store_tables.specs.DeskTables.{desk_at, messages_at, names_at, verdicts_at, parked_at}
use Rattle.store_tables.specs.Stored.{Finds, HasDesk, IsListedAs, tree_of}
use Rattle.store_tables.specs.Kept.{IsForeign, KeepsForeign, Spares}
use Rattle.store_schema.specs.declared.part.DeskPart.TheVariants as part
use Rattle.store_schema.specs.Shapes.{FindsPart, HasEmptyMarks, IsUnmarked, Lacks}
use Rattle.store_schema.proofs.ListedLemmas.{finds_as, unused_as}

-- two tables whose names differ have two trees
apart_by : (f : List ℕ → ℕ) (s : Schema) (name other : List ℕ) (a b : ℕ) (t u : Table)
    → Finds s name a t → Finds s other b u → f t.name ≢ f u.name → t.tree ≢ u.tree
apart_by f s name other a b t u one two differ same =
    let both : Some t ≡ Some u = sym one.by_tree ∙ ap (λ n. find (λ (v : Table). v.tree == n) s.tables) same ∙ two.by_tree in
    let is : t ≡ u = cc in
    differ (ap (λ (v : Table). f v.name) is)

abbrev letter : ℕ → List ℕ → ℕ
letter at name = slice_index_or name at 0

has_got : (ts : List Table) (i : ℕ) (t : Table) → slice_get ts i ≡ Some t → Has ts t
has_got [] i t e = absurd cc
has_got (u ∷ ts) zero t e = inl cc
has_got (u ∷ ts) (suc i) t e = inr (has_got ts i t e)

module _ (s : Schema) (is : HasDesk s) (it : FindsPart s part.Marks) where
  named : it.table.name ≡ codes "marks"
  named = it.is.0

  apart : (at : ℕ) (other : List ℕ) (place : ℕ) (t : Table) → Finds s other place t → letter at (codes "marks") ≢ letter at t.name → it.table.tree ≢ t.tree
  apart at other place t finds differ =
      apart_by (letter at) s (codes "marks") other it.at place it.table t it.finds finds (λ same. differ (sym (ap (letter at) named) ∙ same))

  pub marks_foreign : IsForeign s it.table.tree
  marks_foreign = record {
    desk = apart 0 (codes "desk") is.d (desk_at (tree_of s (codes "desk"))) is.desk (λ e. omega (arith, e));
    messages = apart 1 (codes "messages") is.m (messages_at (tree_of s (codes "messages"))) is.messages (λ e. omega (arith, e));
    names = apart 0 (codes "names") is.n (names_at (tree_of s (codes "names"))) is.names (λ e. omega (arith, e));
    verdicts = apart 0 (codes "verdicts") is.v (verdicts_at (tree_of s (codes "verdicts"))) is.verdicts (λ e. omega (arith, e));
    parked = apart 0 (codes "parked") is.p (parked_at (tree_of s (codes "parked"))) is.parked (λ e. omega (arith, e));
  }

pub unmarked_still : (old new : Database) → HasDesk old.schema → Spares old new → IsUnmarked old → IsUnmarked new
unmarked_still old new is spares unmarked = elim unmarked as (λ _. IsUnmarked new) [
  | inl lacks ↦ inl (subst (λ (s : Schema). Lacks s part.Marks) (sym spares.schema) lacks)
  | inr it ↦ inr (still (sym spares.schema) it (spares.foreign it.marks.table
      (has_got old.schema.tables it.marks.at it.marks.table it.marks.finds.has) (marks_foreign old.schema is it.marks) ∙ it.empty))
]
  where
    still : old.schema ≡ new.schema → (it : HasEmptyMarks old) → new.trees it.marks.table.tree ≡ [] → HasEmptyMarks new
    still same it empty = record {
      marks = record {
        at = it.marks.at;
        table = it.marks.table;
        finds = subst (λ (s : Schema). Finds s (codes "marks") it.marks.at it.marks.table) same it.marks.finds;
        is = it.marks.is;
      };
      empty = empty;
    }

-- the same after a crash, where the schema is another one that lists the same
module _ (old new : Database) (listed : IsListedAs old.schema new.schema) where
  still_lacks : Lacks old.schema part.Marks → IsUnmarked new
  still_lacks lacks = inl (unused_as old.schema new.schema listed (codes "marks") lacks)

  still_empty : (it : FindsPart old.schema part.Marks) → new.trees it.table.tree ≡ [] → IsUnmarked new
  still_empty it empty = inr (record {
    marks = record {
      at = it.at;
      table = it.table;
      finds = finds_as old.schema new.schema listed (codes "marks") it.at it.table it.finds;
      is = it.is;
    };
    empty = empty;
  })

  pub unmarked_spared : HasDesk old.schema → KeepsForeign old.schema old.trees new.trees → IsUnmarked old → IsUnmarked new
  unmarked_spared is spared unmarked = elim unmarked as (λ _. IsUnmarked new) [
    | inl lacks ↦ still_lacks lacks
    | inr it ↦ still_empty it.marks (spared it.marks.table
        (has_got old.schema.tables it.marks.at it.marks.table it.marks.finds.has) (marks_foreign old.schema is it.marks) ∙ it.empty)
  ]

  pub unmarked_again : new.trees ≡ old.trees → IsUnmarked old → IsUnmarked new
  unmarked_again same unmarked = elim unmarked as (λ _. IsUnmarked new) [
    | inl lacks ↦ still_lacks lacks
    | inr it ↦ still_empty it.marks (ap (λ (db : Trees). db it.marks.table.tree) same ∙ it.empty)
  ]
