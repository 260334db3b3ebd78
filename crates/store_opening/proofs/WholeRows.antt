-- A database's own rules: each row of a desk's table has its rowid, and one value for each column.
use Rattle.std.proofs.Common.{sym, ◌≡◌, ◌+◌, suc, ℕ, true, true≢false, List, [], ◌∷◌, length, Some, None, slice_get, refl, ap, subst, ◌∙◌, arith}
use Rattle.std.specs.Prelude.{not, ◌||◌}
use Rattle.std.specs.List.{AllByRecursion}
use Rattle.std.proofs.lemmas.Bool.{and_parts}
use Rattle.sqlite.specs.declared.types.Value.{Value}
use Rattle.sqlite.specs.declared.types.Value.TheVariants.{Null}
use Rattle.sqlite.specs.Order.{Row, column}
use Rattle.sqlite.specs.Table.{Table}
use Rattle.sqlite.specs.Effect.{Database, IsDatabase}
use Rattle.sqlite_rules.specs.Lists.{Has}
use Rattle.sqlite_rules.proofs.ListLemmas.{all_has}
use Rattle.sqlite_sql.specs.Ops.{is_null}
use Rattle.sqlite_schema.specs.declared.schema.Column.{Column}
use Rattle.sqlite_schema.specs.declared.schema.Constraint.TheVariants.{Datatype, NotNull}
use Rattle.sqlite_schema.specs.Rules.{are_present, are_typed, has_computed, passes, suits}
use Rattle.store_tables.proofs.AddLemmas.{all_at}
use Rattle.store_schema.specs.declared.part.DeskPart.{DeskPart}
use Rattle.store_schema.specs.declared.part.DeskPart.TheVariants.{Desk, Messages, Names, Marks, Verdicts, Parked}
use Rattle.store_tables.specs.DeskTables.{names_at, parked_at, verdicts_at}
use Rattle.store_schema.specs.Parts.{table_at}
use Rattle.store_schema.specs.Shapes.{FindsPart}

-- a column that takes no NULL
abbrev IsFirm : Column → Type 0
IsFirm c = c.not_null ≡ true

no_null : (v : Value) → (not true || not (is_null v)) ≡ true → v ≡ Null → ⊥
no_null v h e = true≢false (sym h ∙ ap (λ w. not true || not (is_null w)) e)

present : (c : Column) (at : ℕ) (row : Row) (cs : List Column) → IsFirm c → are_present None at (c ∷ cs) row ≡ true
    → (column row (at + 1) ≡ Null → ⊥) × (are_present None (at + 1) cs row ≡ true)
present c at row cs firm h =
    let both = and_parts (not c.not_null || not (is_null (column row (at + 1)))) (are_present None (at + 1) cs row) h in
    (no_null (column row (at + 1)) (subst (λ b. (not b || not (is_null (column row (at + 1)))) ≡ true) firm both.0), both.1)

-- as many values as columns
fits : (at : ℕ) (cs : List Column) (row : Row) (vs : List Value) → AllByRecursion IsFirm cs → ((i : ℕ) → column row (at + 1 + i) ≡ column vs i)
    → are_typed None at cs vs ≡ true → are_present None at cs row ≡ true → length vs ≡ length cs
fits at [] row [] firm same typed there = refl
fits at [] row (v ∷ vs) firm same typed there = absurd (true≢false (sym typed))
fits at (c ∷ cs) row [] firm same typed there =
    let place : at + 1 ≡ at + 1 + 0 = omega arith in
    absurd ((present c at row cs firm.0 there).0 (ap (column row) place ∙ same 0))
fits at (c ∷ cs) row (v ∷ vs) firm same typed there =
    let more = fits (at + 1) cs row vs firm.1 (λ i. let next : at + 1 + 1 + i ≡ at + 1 + suc i = omega arith in
    ap (column row) next ∙ same (suc i)) (and_parts (suits c v) (are_typed None (at + 1) cs vs) typed).1 (present c at row cs firm.0 there).1 in
    ap suc more

-- ---- the rows of a table

-- the row has its rowid, and so many values
pub record IsWholeRow (width : ℕ) (r : Row) : Type 0 where
  pub id : Value
  pub values : List Value
  pub is : r ≡ id ∷ values
  pub width_is : length values ≡ width

module _ (db : Database) (sound : IsDatabase db) (at : ℕ) (t : Table) (has : slice_get db.schema.tables at ≡ Some t) (no_key : t.key ≡ None) where
  whole_row : (c : Column) (cs : List Column) → t.columns ≡ c ∷ cs → AllByRecursion IsFirm (c ∷ cs)
      → (r : Row) → Has (db.trees t.tree) r → IsWholeRow (length (c ∷ cs)) r
  whole_row c cs columns firm r there =
      let datatype = all_has (λ x. passes Datatype db.schema db.trees t x ≡ true) (db.trees t.tree) r (all_at (λ (u : Table). AllByRecursion
      (λ x. passes Datatype db.schema db.trees u x ≡ true) (db.trees u.tree)) db.schema.tables at t has (sound.obeys.rules Datatype)) there in
      let not_null = all_has (λ x. passes NotNull db.schema db.trees t x ≡ true) (db.trees t.tree) r (all_at (λ (u : Table).
      AllByRecursion (λ x. passes NotNull db.schema db.trees u x ≡ true) (db.trees u.tree)) db.schema.tables at t has (sound.obeys.rules NotNull)) there in
      go r datatype (subst (λ k. are_present k 0 (c ∷ cs) r ≡ true) no_key (subst (λ l. are_present t.key 0 l r ≡ true) columns not_null))
    where
      go : (r : Row) → passes Datatype db.schema db.trees t r ≡ true → are_present None 0 (c ∷ cs) r ≡ true → IsWholeRow (length (c ∷ cs)) r
      go [] datatype there = absurd ((present c 0 [] cs firm.0 there).0 refl)
      go (id ∷ vs) datatype there =
          let typed = (and_parts (are_typed t.key 0 t.columns vs) (has_computed t (id ∷ vs)) datatype).0 in
          let plain = subst (λ k. are_typed k 0 (c ∷ cs) vs ≡ true) no_key (subst (λ l. are_typed t.key 0 l vs ≡ true) columns typed) in
          record {
            id = id;
            values = vs;
            is = refl;
            width_is = fits 0 (c ∷ cs) (id ∷ vs) vs firm (λ i. let next : 0 + 1 + i ≡ suc i = omega arith in ap (column (id ∷ vs)) next) plain there;
          }

-- ---- a desk's tables that are read with their rowids

abbrev pub width_of : DeskPart → ℕ
width_of p = length (table_at p 0).columns

-- the part's rows are read with their rowids
abbrev pub IsRead : DeskPart → Type 0
IsRead Desk = ⊥
IsRead Messages = ⊥
IsRead Names = Unit {0}
IsRead Marks = ⊥
IsRead Verdicts = Unit {0}
IsRead Parked = Unit {0}

pub whole_rows : (db : Database) → IsDatabase db → (p : DeskPart) → IsRead p → (it : FindsPart db.schema p)
    → (r : Row) → Has (db.trees it.table.tree) r → IsWholeRow (width_of p) r
whole_rows db sound Desk reads it r there = absurd reads
whole_rows db sound Messages reads it r there = absurd reads
whole_rows db sound Names reads it r there = whole_row db sound it.at (names_at it.table.tree)
    (subst (λ t. slice_get db.schema.tables it.at ≡ Some t) it.is it.finds.has) refl _ _ refl (refl, (refl, (refl, (refl, tt)))) r there
whole_rows db sound Marks reads it r there = absurd reads
whole_rows db sound Verdicts reads it r there = whole_row db sound it.at (verdicts_at it.table.tree)
    (subst (λ t. slice_get db.schema.tables it.at ≡ Some t) it.is it.finds.has) refl _ _ refl (refl, (refl, (refl, (refl, (refl, tt))))) r there
whole_rows db sound Parked reads it r there = whole_row db sound it.at (parked_at it.table.tree)
    (subst (λ t. slice_get db.schema.tables it.at ≡ Some t) it.is it.finds.has) refl _ _ refl (refl, (refl, (refl, tt))) r there
