-- One table more: what is found, what is unused, and what no foreign key refers to stay so.
use Rattle.std.proofs.Common.{◌≡◌, ◌+◌, ◌<◌, ◌++◌, ◌||◌, ℕ, Bool, true, false, cond, List, [], ◌∷◌, length, Option, Some, None, refl, sym, ap, subst, ◌∙◌}
use Rattle.std.specs.List.{AllByRecursion, list_any, position_from}
use Rattle.std.proofs.lemmas.List.Folds.{list_any-append}
use Rattle.sqlite.specs.Schema.{Schema}
use Rattle.sqlite.specs.Table.{Table}
use Rattle.sqlite.specs.Change.{created, next_tree, KeepsRows}
use Rattle.sqlite.specs.Does.{lacks_sequence}
use Rattle.sqlite.specs.Effect.{Database}
use Rattle.sqlite_schema.specs.declared.schema.Reference.{Reference}
use Rattle.sqlite_schema.specs.Names.{same_name}
use Rattle.store_tables.specs.Stored.{Finds, IsUnreferred, is_in, parent_of}
use Rattle.store_tables.proofs.AddLemmas.{all_at}
use Rattle.store_schema.specs.declared.part.DeskPart.{DeskPart}
use Rattle.store_schema.specs.declared.part.DeskPart.TheVariants.{Desk, Messages, Names, Marks, Verdicts, Parked}
use Rattle.store_schema.specs.Parts.{part_name, table_at}
use Rattle.store_schema.specs.Shapes.{Lacks}
use Rattle.store_schema.specs.Founding.{Adds}
use Rattle.store_schema.specs.private.Making.{Differs, Grows, HasEmpty}
use Rattle.store_schema.specs.Ready.{IsOpen, is_parent}
use Rattle.store_schema.proofs.Grown.{below, find_kept, find_last, finds_new, finds_still, other_below, other_tree, position_none, unused_still}
use Rattle.store_schema.proofs.Makes.{none_lacking}
use Rattle.store_schema.proofs.RecognizedLemmas.{made_is, tree_is}

-- ---- what all six tables have in common

pub same_itself : (part : DeskPart) (n : ℕ) → same_name (table_at part n).name (part_name part) ≡ true
unfolding same_name
same_itself Desk n = refl
same_itself Messages n = refl
same_itself Names n = refl
same_itself Marks n = refl
same_itself Verdicts n = refl
same_itself Parked n = refl

pub name_is : (part : DeskPart) (n : ℕ) → (table_at part n).name ≡ part_name part
name_is Desk n = refl
name_is Messages n = refl
name_is Names n = refl
name_is Marks n = refl
name_is Verdicts n = refl
name_is Parked n = refl

pub refers_not : (part : DeskPart) (n : ℕ) → (table_at part n).references ≡ []
refers_not Desk n = refl
refers_not Messages n = refl
refers_not Names n = refl
refers_not Marks n = refl
refers_not Verdicts n = refl
refers_not Parked n = refl

pub counts_not : (part : DeskPart) (n : ℕ) → (table_at part n).is_counted ≡ false
counts_not Desk n = refl
counts_not Messages n = refl
counts_not Names n = refl
counts_not Marks n = refl
counts_not Verdicts n = refl
counts_not Parked n = refl

pub moved : (part : DeskPart) (m n : ℕ) → record (table_at part m) { tree = n } ≡ table_at part n
moved Desk m n = refl
moved Messages m n = refl
moved Names m n = refl
moved Marks m n = refl
moved Verdicts m n = refl
moved Parked m n = refl

-- ---- lists with one more

any_end : {K : Type 0} (q : K → Bool) (xs : List K) (y : K) → list_any q xs ≡ false → q y ≡ false → list_any q (xs ++ y ∷ []) ≡ false
any_end q xs y a b = list_any-append q xs (y ∷ []) ∙ rw (a, b) refl

none_here : (a b : Bool) → (a || b) ≡ false → (a ≡ false) × (b ≡ false)
none_here true b h = absurd cc
none_here false b h = (refl, h)

any_less : {K : Type 0} (p q : K → Bool) → ((x : K) → p x ≡ false → q x ≡ false) → (xs : List K) → list_any p xs ≡ false → list_any q xs ≡ false
any_less p q each [] h = refl
any_less p q each (x ∷ xs) h = let both = none_here (p x) (list_any p xs) h in rw (each x both.0, any_less p q each xs both.1) refl

-- ---- foreign keys

module _ (s : Schema) (part : DeskPart) where
  abbrev new : Table
  new = record (table_at part 0) { tree = next_tree s }

  more : List Table
  more = s.tables ++ new ∷ []

  abbrev more' : List Table
  more' = s.tables ++ new ∷ []

  -- a reference that has its parent in another table still has it there
  still_other : (tree : ℕ) → tree < next_tree s → (ref : Reference) → is_in (parent_of s.tables ref) tree ≡ false → is_in (parent_of more' ref) tree ≡ false
  still_other tree low ref h = go (parent_of s.tables ref) refl
    where
      q : Table → Bool
      q = λ t. same_name t.name ref.parent

      last : (b : Bool) → is_in (cond b (Some new) None) tree ≡ false
      last true = other_below tree (next_tree s) low
      last false = refl

      go : (o : Option Table) → parent_of s.tables ref ≡ o → is_in (parent_of more' ref) tree ≡ false
      go None e = ap (λ o. is_in o tree) (find_last (λ (t : Table). same_name t.name ref.parent) s.tables new e) ∙ last (same_name new.name ref.parent)
      go (Some u) e =
          ap (λ o. is_in o tree) (find_kept (λ (t : Table). same_name t.name ref.parent) u s.tables (new ∷ []) e) ∙ sym (ap (λ o. is_in o tree) e) ∙ h

  -- a reference that does not name the new table has its parent in another one
  new_other : (ref : Reference) → same_name (part_name part) ref.parent ≡ false → is_in (parent_of more' ref) (next_tree s) ≡ false
  new_other ref h = go (parent_of s.tables ref) refl
    where
      last : cond (same_name new.name ref.parent) (Some new) None ≡ None
      last = ap (λ n. cond (same_name n ref.parent) (Some new) None) (name_is part 0) ∙ ap (λ b. cond b (Some new) None) h

      go : (o : Option Table) → parent_of s.tables ref ≡ o → is_in (parent_of more' ref) (next_tree s) ≡ false
      go None e = ap (λ o. is_in o (next_tree s)) (find_last (λ (t : Table). same_name t.name ref.parent) s.tables new e ∙ last)
      go (Some u) e = ap (λ o. is_in o (next_tree s)) (find_kept (λ (t : Table). same_name t.name ref.parent) u s.tables (new ∷ []) e)
          ∙ other_tree u.tree (next_tree s) (below s (λ (t : Table). same_name t.name ref.parent) u e)

  -- the new table has no foreign key
  none_new : (p : Reference → Bool) → list_any p new.references ≡ false
  none_new p = ap (list_any p) (refers_not part 0)

  pub unreferred_still : (tree : ℕ) → tree < next_tree s → IsUnreferred s tree → IsUnreferred (created s (table_at part 0)) tree
  unreferred_still tree low h = any_end (λ (t : Table). list_any (λ ref. is_in (parent_of more' ref) tree) t.references) s.tables new (any_less (λ (t : Table).
      list_any (λ ref. is_in (parent_of s.tables ref) tree) t.references) (λ (t : Table). list_any (λ ref. is_in (parent_of more' ref) tree) t.references)
      (λ t. any_less (λ ref. is_in (parent_of s.tables ref) tree) (λ ref. is_in (parent_of more' ref) tree) (still_other tree low) t.references) s.tables h)
      (none_new (λ ref. is_in (parent_of more' ref) tree))

  pub unreferred_new : is_parent s (part_name part) ≡ false → IsUnreferred (created s (table_at part 0)) (next_tree s)
  unreferred_new h = any_end (λ (t : Table). list_any (λ ref. is_in (parent_of more' ref) (next_tree s)) t.references) s.tables new
      (any_less (λ (t : Table). list_any (λ ref. same_name (part_name part) ref.parent) t.references)
      (λ (t : Table). list_any (λ ref. is_in (parent_of more' ref) (next_tree s)) t.references)
      (λ t. any_less (λ ref. same_name (part_name part) ref.parent) (λ ref. is_in (parent_of more' ref) (next_tree s)) new_other t.references) s.tables h)
      (none_new (λ ref. is_in (parent_of more' ref) (next_tree s)))

  pub unnamed_still : (name : List ℕ) → is_parent s name ≡ false → is_parent (created s (table_at part 0)) name ≡ false
  unnamed_still name h =
      any_end (λ (t : Table). list_any (λ ref. same_name name ref.parent) t.references) s.tables new h (none_new (λ ref. same_name name ref.parent))

  -- ---- names

  pub lacks_still : (other : DeskPart) → Differs part other → Lacks s other → Lacks (created s (table_at part 0)) other
  lacks_still other differs free = record {
    table = unused_still s (table_at part 0) (part_name other) free.table (ap (λ n. same_name n (part_name other)) (name_is part 0) ∙ differs.table);
    view = free.view;
    index = position_none (λ i. same_name i.name (part_name other)) 0 s.indexes _ free.index ∙ subst (λ (t : Table).
        position_from (λ i. same_name i.name (part_name other)) (0 + length s.indexes)
        (Rattle.sqlite_catalog.specs.Change.automatics t 0 (t.tree + 1) t.uniques)
        ≡ None) (sym (moved part 0 (next_tree s))) (subst (λ n. position_from (λ i. same_name i.name (part_name other)) (0 + length s.indexes)
        (Rattle.sqlite_catalog.specs.Change.automatics (table_at part (next_tree s)) 0 (n + 1) (table_at part (next_tree s)).uniques) ≡ None)
        (sym (tree_is part (next_tree s))) (differs.index (next_tree s) (0 + length s.indexes)));
  }

-- ---- the step

open_still : (s : Schema) (part other : DeskPart) → Differs part other → IsOpen s other → IsOpen (created s (table_at part 0)) other
open_still s part other differs free = record {
  lacks = lacks_still s part other differs free.lacks;
  unnamed = unnamed_still s part (part_name other) free.unnamed;
}

all_open : (s : Schema) (part : DeskPart) (rest : List DeskPart) → AllByRecursion (Differs part) rest
    → AllByRecursion (IsOpen s) rest → AllByRecursion (IsOpen (created s (table_at part 0))) rest
all_open s part [] differ all = tt
all_open s part (other ∷ rest) differ all = (open_still s part other differ.0 all.0, all_open s part rest differ.1 all.1)

module _ (part : DeskPart) (b c : Database) (adds : Adds (table_at part 0) b c) where
  kept_at : (t : Table) (at : ℕ) (name : List ℕ) → Finds b.schema name at t → c.trees t.tree ≡ b.trees t.tree
  kept_at t at name it = all_at (λ (x : Table). c.trees x.tree ≡ b.trees x.tree) b.schema.tables at t it.has adds.others

  has_still : (other : DeskPart) → HasEmpty b other → HasEmpty c other
  has_still other it =
      let t = it.found.table in
      record {
        found = record {
          at = it.found.at;
          table = t;
          finds = subst (λ (s : Schema). Finds s (part_name other) it.found.at t) (sym adds.schema)
              (finds_still b.schema (table_at part 0) (part_name other) it.found.at t it.found.finds);
          is = it.found.is;
        };
        empty = kept_at t it.found.at (part_name other) it.found.finds ∙ it.empty;
        alone = subst (λ (s : Schema). IsUnreferred s t.tree) (sym adds.schema)
            (unreferred_still b.schema part t.tree (below b.schema _ t it.found.finds.by_tree) it.alone);
      }

  all_has : (made : List DeskPart) → AllByRecursion (HasEmpty b) made → AllByRecursion (HasEmpty c) made
  all_has [] all = tt
  all_has (other ∷ made) all = (has_still other all.0, all_has made all.1)

  has_new : IsOpen b.schema part → HasEmpty c part
  has_new free =
      let t = table_at part (next_tree b.schema) in
      let tree : t.tree ≡ next_tree b.schema = tree_is part (next_tree b.schema) in
      record {
        found = record {
          at = length b.schema.tables;
          table = t;
          finds = subst (λ (s : Schema). Finds s (part_name part) (length b.schema.tables) t) (sym adds.schema)
              (subst (λ (u : Table). Finds (created b.schema (table_at part 0)) (part_name part) (length b.schema.tables) u)
              (moved part 0 (next_tree b.schema)) (finds_new b.schema (table_at part 0) (part_name part) free.lacks.table (same_itself part 0) adds.stored));
          is = made_is part (next_tree b.schema);
        };
        empty = ap c.trees tree ∙ adds.empty;
        alone = subst (λ n. IsUnreferred c.schema n) (sym tree)
            (subst (λ (s : Schema). IsUnreferred s (next_tree b.schema)) (sym adds.schema) (unreferred_new b.schema part free.unnamed));
      }

keeps_prefix : (ts us : List Table) (one two three : Rattle.sqlite.specs.Tree.Trees)
    → KeepsRows ts one two → KeepsRows (ts ++ us) two three → KeepsRows ts one three
keeps_prefix [] us one two three a b = tt
keeps_prefix (t ∷ ts) us one two three a b = (b.0 ∙ a.0, keeps_prefix ts us one two three a.1 b.1)

append-assoc : {K : Type 0} (xs ys zs : List K) → (xs ++ ys) ++ zs ≡ xs ++ (ys ++ zs)
append-assoc [] ys zs = refl
append-assoc (x ∷ xs) ys zs = ap (λ l. x ∷ l) (append-assoc xs ys zs)

-- a part that was open is made
pub grows_more : (part : DeskPart) (made rest : List DeskPart) (a b c : Database) → AllByRecursion (Differs part) rest
    → Grows made (part ∷ rest) a b → Adds (table_at part 0) b c → Grows (part ∷ made) rest a c
grows_more part made rest a b c differ g adds = record {
  has = (has_new part b c adds g.open'.0, all_has part b c adds made g.has);
  open' = subst (λ (s : Schema). AllByRecursion (IsOpen s) rest) (sym adds.schema) (all_open b.schema part rest differ g.open'.1);
  counted = ap lacks_sequence adds.schema ∙ none_lacking b.schema (table_at part 0) (counts_not part 0) g.counted;
  kept = keeps_prefix a.schema.tables g.more a.trees b.trees c.trees g.kept (subst (λ ts. KeepsRows ts b.trees c.trees) g.tables adds.others);
  more = g.more ++ record (table_at part 0) { tree = next_tree b.schema } ∷ [];
  tables = ap (λ (s : Schema). s.tables) adds.schema
      ∙ ap (λ ts. ts ++ record (table_at part 0) { tree = next_tree b.schema } ∷ []) g.tables ∙ append-assoc a.schema.tables g.more _;
}
