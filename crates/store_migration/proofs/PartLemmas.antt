-- A desk's tables have trees of their own, and stay where they are found.
use Rattle.std.proofs.Common.{◌≡◌, ◌≢◌, ◌<◌, ◌≤◌, ◌+◌, ◌*◌, ◌==◌, inl, inr, ℕ, max, zero, suc, List, [], ◌∷◌}
use Rattle.std.proofs.Common.{Some, find, fold, slice_get, slice_index_or, refl, sym, ap, subst, ◌∙◌, arith}
use Rattle.std.specs.List.{position_from}
use Rattle.sqlite.specs.Schema.{Schema}
use Rattle.sqlite.specs.Table.{Table}
use Rattle.sqlite.specs.Change.{next_tree}
use Rattle.sqlite_catalog.specs.Change.{past_views}
use Rattle.sqlite.specs.Effect.{Database}
use Rattle.sqlite_rules.specs.Lists.{Has}
use Rattle.sqlite_schema.specs.Names.{same_name}
use Rattle.store_tables.specs.Kept.{table_in}
use Rattle.store_tables.specs.Stored.{Finds, tree_of}
use Rattle.store_tables.specs.Steps.{KeepsBut}
use Rattle.store_tables.proofs.AddLemmas.{all_at}
use Rattle.store_schema.specs.declared.part.DeskPart.{DeskPart}
use Rattle.store_schema.specs.declared.part.DeskPart.TheVariants.{Desk, Messages, Names, Marks, Verdicts, Parked}
use Rattle.store_schema.specs.Parts.{part_name}
use Rattle.store_schema.specs.Shapes.{FindsPart}
use Rattle.store_schema.proofs.Grown.{grows, indexes_grow}
use Rattle.store_schema.proofs.RecognizedLemmas.{name_in}
use Rattle.store_schema.proofs.ShapeLemmas.{tree_in}

-- ---- told apart by the first letters

abbrev letters : List ℕ → ℕ
letters name = slice_index_or name 0 0 * 256 + slice_index_or name 1 0

abbrev pub mark_of : DeskPart → ℕ
mark_of Desk = 25701
mark_of Messages = 28005
mark_of Names = 28257
mark_of Marks = 28001
mark_of Verdicts = 30309
mark_of Parked = 28769

mark_is : (p : DeskPart) → letters (part_name p) ≡ mark_of p
mark_is Desk = refl
mark_is Messages = refl
mark_is Names = refl
mark_is Marks = refl
mark_is Verdicts = refl
mark_is Parked = refl

marked : (s : Schema) (p : DeskPart) (it : FindsPart s p) → letters it.table.name ≡ mark_of p
marked s p it = ap letters (name_in p it.table it.is) ∙ mark_is p

-- two parts have two trees
pub apart : (s : Schema) (p q : DeskPart) → FindsPart s p → FindsPart s q → mark_of p ≢ mark_of q → tree_of s (part_name p) ≢ tree_of s (part_name q)
apart s p q one two differ same =
    let t = one.table in
    let u = two.table in
    let trees : t.tree ≡ u.tree = sym (tree_in s p one) ∙ same ∙ tree_in s q two in
    let both : Some t ≡ Some u = sym one.finds.by_tree ∙ ap (λ n. find (λ (v : Table). v.tree == n) s.tables) trees ∙ two.finds.by_tree in
    let is : t ≡ u = cc in
    differ (sym (marked s p one) ∙ ap (λ (v : Table). letters v.name) is ∙ marked s q two)

-- a change of one part's table leaves another's as it is
pub still : (p q : DeskPart) (a b : Database) → FindsPart a.schema p → FindsPart a.schema q → mark_of p ≢ mark_of q
    → b.schema ≡ a.schema → KeepsBut (part_name p) a b → table_in b (part_name q) ≡ table_in a (part_name q)
still p q a b one two differ schema others =
    let tree : two.table.tree ≡ tree_of a.schema (part_name q) = sym (tree_in a.schema q two) in
    let same = all_at (λ (v : Table). v.tree ≢ tree_of a.schema (part_name p) → b.trees v.tree ≡ a.trees v.tree) a.schema.tables two.at
    two.table two.finds.has others (λ e. apart a.schema p q one two differ (sym e ∙ tree)) in
    ap (λ s. b.trees (tree_of s (part_name q))) schema ∙ ap b.trees (sym tree) ∙ same ∙ ap a.trees tree

-- ---- the tables of a schema

pub has_got : (ts : List Table) (i : ℕ) (t : Table) → slice_get ts i ≡ Some t → Has ts t
has_got [] i t e = absurd cc
has_got (u ∷ ts) zero t e = inl cc
has_got (u ∷ ts) (suc i) t e = inr (has_got ts i t e)

-- each has a tree below the next
below_all : (n k : ℕ) (ts : List Table) (t : Table) → Has ts t → fold (λ n (t : Table). max n (t.tree + 1)) n ts ≤ k → t.tree < k
below_all n k [] t there low = absurd there
below_all n k (x ∷ ts) t (inl same) low =
    let up = grows (max n (x.tree + 1)) ts in
    let tree : t.tree ≡ x.tree = ap (λ (u : Table). u.tree) same in
    omega (arith, up, low, tree)
below_all n k (x ∷ ts) t (inr later) low = below_all (max n (x.tree + 1)) k ts t later low

pub below_next : (s : Schema) (t : Table) → Has s.tables t → t.tree < next_tree s
below_next s t there = below_all (past_views s) (next_tree s) s.tables t there (indexes_grow _ s.indexes)

-- a table is found by the tables alone
pub finds_by : (s u : Schema) (name : List ℕ) (at : ℕ) (t : Table) → s.tables ≡ u.tables → Finds s name at t → Finds u name at t
finds_by s u name at t same it = record {
  named = subst (λ ts. position_from (λ (v : Table). same_name v.name name) 0 ts ≡ Some at) same it.named;
  has = subst (λ ts. slice_get ts at ≡ Some t) same it.has;
  stored = it.stored;
  by_tree = subst (λ ts. find (λ (v : Table). v.tree == t.tree) ts ≡ Some t) same it.by_tree;
}
