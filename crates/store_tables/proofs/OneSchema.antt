-- Two schemas that the same trees list keep the same of a desk.
use Rattle.std.proofs.Common.{◌≡◌, ℕ, ◌+◌, pos, Bool, List, [], ◌∷◌, codes, Some, Ok, if◌then◌else◌, refl, sym, ap, subst, ◌∙◌, arith}
use Rattle.std.specs.List.{AllZip, filter, position_from}
use Rattle.sqlite.specs.declared.types.Value.{Value}
use Rattle.sqlite.specs.declared.types.Value.TheVariants.{Text, Int}
use Rattle.sqlite.specs.Order.{Row, column}
use Rattle.sqlite.specs.Tree.{Trees}
use Rattle.sqlite.specs.Table.{Table}
use Rattle.sqlite.specs.Schema.{Schema}
use Rattle.sqlite.specs.Compile.{table_defined_by}
use Rattle.sqlite.specs.Effect.{Database, IsDatabase}
use Rattle.sqlite_schema.specs.Names.{same_name, table_named, index_named, view_named}
use Rattle.sqlite_trees.specs.Objects.{catalog_tree}
use Rattle.sqlite_catalog.specs.Listing.{IsTableRow, IsIndexRow, IsViewRow, IsSound, is_table_row, is_index_row, is_view_row}
use Rattle.store_tables.specs.Stored.{Finds, HasDesk, IsFree, IsListedAs, IsUnused, content_in}
use Rattle.store_tables.specs.Kept.{IsDeskDatabase}
use Rattle.store_tables.specs.private.Survival.{IsAgain}

-- ---- lists that go with the same rows

zip_same : {A B : Type 0} (R : A → B → Type 0) → ((x : A) (y z : B) → R x y → R x z → y ≡ z)
    → (xs : List A) (ys zs : List B) → AllZip R xs ys → AllZip R xs zs → ys ≡ zs
zip_same R one [] [] [] p q = refl
zip_same R one [] [] (z ∷ zs) p q = absurd q
zip_same R one [] (y ∷ ys) zs p q = absurd p
zip_same R one (x ∷ xs) [] zs p q = absurd p
zip_same R one (x ∷ xs) (y ∷ ys) [] p q = absurd q
zip_same R one (x ∷ xs) (y ∷ ys) (z ∷ zs) p q = λ i. one x y z p.0 q.0 i ∷ zip_same R one xs ys zs p.1 q.1 i

-- a test that says the same for each pair finds the same place in both lists
zip_position : {A B : Type 0} (R S : A → B → Type 0) (t : B → Bool) → ((x : A) (y z : B) → R x y → S x z → t y ≡ t z)
    → (i : ℕ) (xs : List A) (ys zs : List B) → AllZip R xs ys → AllZip S xs zs → position_from t i ys ≡ position_from t i zs
zip_position R S t alike i [] [] [] p q = refl
zip_position R S t alike i [] [] (z ∷ zs) p q = absurd q
zip_position R S t alike i [] (y ∷ ys) zs p q = absurd p
zip_position R S t alike i (x ∷ xs) [] zs p q = absurd p
zip_position R S t alike i (x ∷ xs) (y ∷ ys) [] p q = absurd q
zip_position R S t alike i (x ∷ xs) (y ∷ ys) (z ∷ zs) p q =
    ap (λ b. if b then Some i else position_from t (i + 1) ys) (alike x y z p.0 q.0)
    ∙ ap (λ o. if t z then Some i else o) (zip_position R S t alike (i + 1) xs ys zs p.1 q.1)

-- ---- a row has one table and one name

same_tree : (row : Row) (t u : ℕ) → column row 0 ≡ Int (pos (t + 1)) → column row 0 ≡ Int (pos (u + 1)) → t ≡ u
same_tree row t u p q = let e = sym p ∙ q in let both : t + 1 ≡ u + 1 = cc in omega (arith, both)

same_text : (v : Value) (s t : List ℕ) → v ≡ Text s → v ≡ Text t → s ≡ t
same_text v s t p q = let e = sym p ∙ q in cc

one_table : (row : Row) (t u : Table) → IsTableRow row t → IsTableRow row u → t ≡ u
one_table row t u a b =
    let sql : a.sql ≡ b.sql = same_text (column row 4) a.sql b.sql a.sql_is b.sql_is in
    let made : Ok a.defined.0 ≡ Ok b.defined.0 = sym a.defined.1 ∙ ap table_defined_by sql ∙ b.defined.1 in
    let same : a.defined.0 ≡ b.defined.0 = cc in
    let tree = same_tree row t.tree u.tree a.described.id b.described.id in
    a.defined.2 ∙ (λ i. record (same i) { tree = tree i }) ∙ sym b.defined.2

module _ (s u : Schema) (trees : Trees) (first : IsSound s trees) (second : IsSound u trees) where
  pub same_tables : s.tables ≡ u.tables
  same_tables = zip_same IsTableRow one_table (filter is_table_row (trees catalog_tree)) s.tables u.tables first.lists.listed.tables second.lists.listed.tables

  index_same : (name : List ℕ) → index_named s name ≡ index_named u name
  index_same name = zip_position (IsIndexRow s.tables) (IsIndexRow u.tables) (λ i. same_name i.name name)
      (λ row i j a b. ap (λ x. same_name x name) (same_text (column row 2) i.name j.name a.described.name_is b.described.name_is))
      0 (filter is_index_row (trees catalog_tree)) s.indexes u.indexes first.lists.listed.indexes second.lists.listed.indexes

  view_same : (name : List ℕ) → view_named s name ≡ view_named u name
  view_same name = zip_position IsViewRow IsViewRow (λ v. same_name v.name name)
      (λ row v w a b. ap (λ x. same_name x name) (same_text (column row 2) v.name w.name a.described.name_is b.described.name_is))
      0 (filter is_view_row (trees catalog_tree)) s.views u.views first.lists.listed.views second.lists.listed.views

  table_same : (name : List ℕ) → table_named s name ≡ table_named u name
  table_same name = ap (position_from (λ t. same_name t.name name) 0) same_tables

  pub unused_again : (name : List ℕ) → IsUnused s name → IsUnused u name
  unused_again name free = record {
    table = sym (table_same name) ∙ free.table;
    view = sym (view_same name) ∙ free.view;
    index = sym (index_same name) ∙ free.index;
  }

  listed_as : IsListedAs s u
  listed_as = record { tables = sym same_tables; views = λ name. sym (view_same name); indexes = λ name. sym (index_same name) }

  free_again : IsFree s → IsFree u
  free_again free = record {
    desk = unused_again (codes "desk") free.desk;
    messages = unused_again (codes "messages") free.messages;
    names = unused_again (codes "names") free.names;
    verdicts = unused_again (codes "verdicts") free.verdicts;
    parked = unused_again (codes "parked") free.parked;
  }

-- ---- a desk by the tables alone

abbrev with_tables : Schema → List Table → Trees → Database
with_tables s ts trees = record { schema = record s { tables = ts }; trees = trees }

module _ (s u : Schema) (trees : Trees) where
  -- the schema of the first with the tables of the second
  abbrev mixed : Schema
  mixed = record s { tables = u.tables }

  finds_as : (name : List ℕ) (at : ℕ) (t : Table) → Finds mixed name at t → Finds u name at t
  finds_as name at t f = record { named = f.named; has = f.has; stored = f.stored; by_tree = f.by_tree }

  has_as : HasDesk mixed → HasDesk u
  has_as h = record {
    d = h.d;
    m = h.m;
    n = h.n;
    v = h.v;
    p = h.p;
    desk = finds_as _ _ _ h.desk;
    messages = finds_as _ _ _ h.messages;
    names = finds_as _ _ _ h.names;
    verdicts = finds_as _ _ _ h.verdicts;
    parked = finds_as _ _ _ h.parked;
    desk_alone = h.desk_alone;
    names_alone = h.names_alone;
    verdicts_alone = h.verdicts_alone;
    parked_alone = h.parked_alone;
  }

  desk_as : IsDeskDatabase (record { schema = mixed; trees = trees }) → IsDeskDatabase (record { schema = u; trees = trees })
  desk_as is = record {
    tidy = record { desk = has_as is.tidy.desk; names = is.tidy.names; verdicts = is.tidy.verdicts; parked = is.tidy.parked };
    marked = is.marked;
    texts = is.texts;
    only = is.only;
    rows = is.rows;
  }

  pub kept_again : s.tables ≡ u.tables → IsDeskDatabase (record { schema = s; trees = trees }) → IsDeskDatabase (record { schema = u; trees = trees })
  kept_again same is = let P : List Table → Type 0 = λ ts. IsDeskDatabase (with_tables s ts trees) in desk_as (subst P same is)

  pub content_again : s.tables ≡ u.tables → content_in u trees ≡ content_in s trees
  content_again same = ap (λ (ts : List Table). content_in (record s { tables = ts }) trees) (sym same)

-- a database with the trees of another keeps of a desk the same
pub again : (a b : Database) → IsDatabase a → IsDatabase b → b.trees ≡ a.trees → IsAgain a b
again a b first second same =
    let sound : IsSound b.schema a.trees = subst (λ (t : Trees). IsSound b.schema t) same second in
    let tables = same_tables a.schema b.schema a.trees first sound in
    record {
      free = free_again a.schema b.schema a.trees first sound;
      desk = λ is. subst (λ (t : Trees). IsDeskDatabase (record { schema = b.schema; trees = t })) (sym same) (kept_again a.schema b.schema a.trees tables is);
      content = ap (content_in b.schema) same ∙ content_again a.schema b.schema a.trees tables;
    }

-- and it lists the same tables, views and indexes
pub listed_again : (a b : Database) → IsDatabase a → IsDatabase b → b.trees ≡ a.trees → IsListedAs a.schema b.schema
listed_again a b first second same = listed_as a.schema b.schema a.trees first (subst (λ (t : Trees). IsSound b.schema t) same second)
