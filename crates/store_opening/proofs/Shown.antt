-- The rows that are read of a desk's tables are the rows of the tables.
use Rattle.std.proofs.Common.{◌≡◌, ◌==◌, ◌≤◌, inl, inr, ℕ, ℤ, pos, suc, Bool, true, false, true≢false, not, ◌&&◌, cond}
use Rattle.std.proofs.Common.{List, [], ◌∷◌, length, map, Option, Some, None, codes, refl, sym, ap, subst, ◌∙◌, arith}
use Rattle.std.specs.List.Sorted.{IsPermutation}
use Rattle.std.proofs.lemmas.List.Sorted.{IsPermutation-sym, length_permutation}
use Rattle.std.specs.Ordering.{int_eq}
use Rattle.std.proofs.lemmas.Bool.Decides.{Decides-eqb, Decides-int_eq}
use Rattle.sqlite.specs.declared.types.Value.{Value}
use Rattle.sqlite.specs.declared.types.Value.TheVariants.{Null, Int, Real, Text, Blob}
use Rattle.sqlite.specs.Order.{Row, column}
use Rattle.sqlite.specs.Effect.{Database, IsDatabase}
use Rattle.sqlite.proofs.Callers.{one_permutation}
use Rattle.sqlite_rules.specs.Lists.{Has}
use Rattle.sqlite_rules.proofs.ListLemmas.{contains_had, has_contained}
use Rattle.sqlite_rules.proofs.ProbeLemmas.{has_mapped, mapped_has}
use Rattle.std.proofs.lemmas.List.Sorted.{Contains-permutation}
use Rattle.messages.specs.declared.message.Message.{Message}
use Rattle.store_tables.specs.Kept.{IsKeyed, table_in}
use Rattle.store_tables.specs.Rows.{AreRows, IsRow}
use Rattle.store_tables.specs.Stored.{is_one, is_two, recorded, roster_of}
use Rattle.store_schema.specs.declared.part.DeskPart.{DeskPart}
use Rattle.store_schema.specs.declared.part.DeskPart.TheVariants.{Desk, Messages, Names, Marks, Verdicts, Parked}
use Rattle.store_schema.specs.Parts.{part_name}
use Rattle.store_schema.specs.Shapes.{FindsPart, IsUnmarked}
use Rattle.store_schema.proofs.ShapeLemmas.{tree_in}
use Rattle.store_opening.specs.Opened.{is_number, recorded_as}
use Rattle.store_opening.specs.private.Rows.{HaveRowids}
use Rattle.store_opening.specs.private.Reading.{AreHeld, shown_mark}
use Rattle.store_opening.specs.private.Selecting.{ShowsPart, shown_of}
use Rattle.store_opening.proofs.Compared.{five, four, six}
use Rattle.store_opening.proofs.WholeRows.{IsRead, IsWholeRow, whole_rows, width_of}

-- ---- members

pub has_permuted : {X : Type 0} (xs ys : List X) (x : X) → IsPermutation xs ys → Has xs x → Has ys x
has_permuted xs ys x same h = has_contained ys x (Contains-permutation xs ys x same (contains_had xs x h))

-- each row of one is a row of the other
abbrev pub SameRows : (old new : List Row) → Type 0
SameRows old new = (r : Row) → (Has old r → Has new r) × (Has new r → Has old r)

-- ---- one table

module _ (db : Database) (sound : IsDatabase db) (p : DeskPart) (reads : IsRead p)
    (it : FindsPart db.schema p) (rows : List Row) (shows : ShowsPart p db rows) where
  abbrev table : List Row
  table = table_in db (part_name p)

  whole : (r : Row) → Has table r → IsWholeRow (width_of p) r
  whole r there = whole_rows db sound p reads it r (subst (λ t. Has (db.trees t) r) (tree_in db.schema p it) there)

  wide : (r : Row) (n : ℕ) → (w : IsWholeRow n r) → (length r == suc n) ≡ true
  wide r n w = (Decides-eqb (length r) (suc n)).1 (ap length w.is ∙ ap suc w.width_is)

  itself : (p : DeskPart) → IsRead p → (r : Row) → IsWholeRow (width_of p) r → shown_of p r ≡ r
  itself Desk reads r w = absurd reads
  itself Messages reads r w = absurd reads
  itself Names reads r w = sym (five r (wide r 4 w))
  itself Marks reads r w = absurd reads
  itself Verdicts reads r w = sym (six r (wide r 5 w))
  itself Parked reads r w = sym (four r (wide r 3 w))

  in_table : (r : Row) → Has rows r → Has table r
  in_table r there =
      let o = has_mapped (shown_of p) table r (has_permuted rows (map (shown_of p) table) r (IsPermutation-sym _ _ shows) there) in
      subst (Has table) (sym (o.2 ∙ itself p reads o.0 (whole o.0 o.1))) o.1

  in_rows : (r : Row) → Has table r → Has rows r
  in_rows r there = subst (Has rows) (itself p reads r (whole r there))
      (has_permuted (map (shown_of p) table) rows (shown_of p r) shows (mapped_has (shown_of p) table r there))

  pub same_rows_in : SameRows rows table
  same_rows_in r = (in_table r, in_rows r)

  pub identified : HaveRowids rows
  identified r there = let w = whole r (in_table r there) in (w.id, w.values, w.is)

-- ---- what is said of the rows

module _ (old new : List Row) (same : SameRows old new) where
  pub keyed_same : IsKeyed old → IsKeyed new
  keyed_same keyed = record { ints = λ r there. keyed.ints r ((same r).1 there); once = λ a b here there. keyed.once a b ((same a).1 here) ((same b).1 there) }

  row_too : (r : List Value) → IsRow old r → IsRow new r
  row_too r there = (there.0, (same (there.0 ∷ r)).0 there.1)

  row_before : (r : List Value) → IsRow new r → IsRow old r
  row_before r there = (there.0, (same (there.0 ∷ r)).1 there.1)

pub same_back : (old new : List Row) → SameRows old new → SameRows new old
same_back old new same r = ((same r).1, (same r).0)

module _ (S : Message → Type 0) (N V P N' V' P' : List Row) (n : SameRows N N') (v : SameRows V V') (p : SameRows P P') where
  pub rows_too : AreRows S (IsRow N) (IsRow V) (IsRow P) → AreRows S (IsRow N') (IsRow V') (IsRow P')
  rows_too r = record {
    names_each = λ x there. r.names_each x (row_before N N' n x there);
    names_all = λ q there. let it = r.names_all q there in (it.0, it.1, it.2, row_too N N' n _ it.3);
    names_once = λ a b c d alike here there. r.names_once a b c d alike (row_before N N' n _ here) (row_before N N' n _ there);
    verdicts_each = λ x there. r.verdicts_each x (row_before V V' v x there);
    verdicts_all = λ w there asks. row_too V V' v _ (r.verdicts_all w there asks);
    parked_each = λ x there. r.parked_each x (row_before P P' p x there);
    parked_all = λ w there none. row_too P P' p _ (r.parked_all w there none);
  }

  pub held_too : AreHeld S N V P → AreHeld S N' V' P'
  held_too h = record {
    rows = rows_too h.rows;
    names = keyed_same N N' n h.names;
    verdicts = keyed_same V V' v h.verdicts;
    parked = keyed_same P P' p h.parked;
  }

-- ---- the row of `desk`

none : (version : ℕ) (rows : List Row) → length rows ≡ 0 → shown_mark version rows ≡ None
none version [] e = refl
none version (r ∷ rs) e = absurd (omega arith)

many : (version : ℕ) (rows : List Row) → 2 ≤ length rows → shown_mark version rows ≡ None
many version [] e = absurd (omega arith)
many version (r ∷ []) e = absurd (omega arith)
many version (r ∷ s ∷ rs) e = refl

mark_shown : (version : ℕ) (stored rows : List Row) → IsPermutation (map (shown_of Desk) stored) rows → shown_mark version rows ≡ recorded_as version stored
mark_shown version [] rows h = none version rows (length_permutation [] rows h)
mark_shown version (r ∷ []) rows h = ap (shown_mark version) (one_permutation (shown_of Desk r) rows h)
mark_shown version (r ∷ s ∷ rs) rows h =
    many version rows (let same = length_permutation (shown_of Desk r ∷ shown_of Desk s ∷ map (shown_of Desk) rs) rows h in omega (arith, same))

pub mark_is : (version : ℕ) (db : Database) (rows : List Row) → ShowsPart Desk db rows
    → shown_mark version rows ≡ recorded_as version (table_in db (codes "desk"))
mark_is version db rows shows = mark_shown version (table_in db (codes "desk")) rows shows

one_is : (v : Value) → is_number 1 v ≡ is_one v
one_is Null = refl
one_is (Int n) = refl
one_is (Real x) = refl
one_is (Text t) = refl
one_is (Blob b) = refl

two_is : (v : Value) → is_number 2 v ≡ is_two v
two_is Null = refl
two_is (Int n) = refl
two_is (Real x) = refl
two_is (Text t) = refl
two_is (Blob b) = refl

-- schema 2 is a desk's of today
pub recorded_two : (rows : List Row) → recorded_as 2 rows ≡ recorded rows
recorded_two [] = refl
recorded_two (r ∷ []) = λ i. cond (one_is (column r 0) i && two_is (column r 2) i) (Rattle.store_tables.specs.Stored.text_at (column r 3)) None
recorded_two (r ∷ s ∷ rs) = refl

-- and schema 1 is that of an older one, whose text is then its roster's
int_both : (n : ℤ) → int_eq n (pos 1) ≡ true → int_eq n (pos 2) ≡ false
int_both n one = ap (λ m. int_eq m (pos 2)) ((Decides-int_eq n (pos 1)).0 one)

not_two : (v : Value) → is_number 1 v ≡ true → is_two v ≡ false
not_two Null h = refl
not_two (Int n) h = int_both n h
not_two (Real x) h = refl
not_two (Text t) h = refl
not_two (Blob b) h = refl

chosen : (id schema : Bool) (text : Option (List ℕ)) (roster : List ℕ) → cond (id && schema) text None ≡ Some roster
    → (id ≡ true) × (schema ≡ true) × (text ≡ Some roster)
chosen true true text roster is = (refl, refl, is)
chosen true false text roster is = absurd cc
chosen false schema text roster is = absurd cc

pub roster_before : (rows : List Row) (roster : List ℕ) → recorded_as 1 rows ≡ Some roster → roster_of rows ≡ roster
roster_before [] roster is = absurd cc
roster_before (r ∷ []) roster is =
    let it = chosen (is_number 1 (column r 0)) (is_number 1 (column r 2)) (Rattle.store_tables.specs.Stored.text_at (column r 3)) roster is in
    let id : is_one (column r 0) ≡ true = sym (one_is (column r 0)) ∙ it.0 in
    let old : is_one (column r 2) ≡ true = sym (one_is (column r 2)) ∙ it.1 in
    rw (id, old, not_two (column r 2) it.1, it.2) refl
roster_before (r ∷ s ∷ rs) roster is = absurd cc

-- ---- the `marks` of an older desk

no_rows : {X : Type 0} (xs : List X) → length xs ≡ 0 → xs ≡ []
no_rows [] e = refl
no_rows (x ∷ xs) e = absurd (omega (arith, e))

not_false : (b : Bool) → not b ≡ false → b ≡ true
not_false true h = refl
not_false false h = absurd (true≢false h)

not_true : (b : Bool) → not b ≡ true → b ≡ false
not_true true h = absurd (true≢false (sym h))
not_true false h = refl

filled : (n : ℕ) (empty : Bool) → empty ≡ (n == 0) → not empty ≡ true → 0 ≡ n → ⊥
filled n empty is some none = true≢false (sym ((Decides-eqb n 0).1 (sym none)) ∙ sym is ∙ not_true empty some)

-- whether a row is shown of them tells whether they have one
pub tells_marks : (db : Database) (it : FindsPart db.schema Marks) (rows : List Row) → ShowsPart Marks db rows
    → (empty : Bool) → empty ≡ (length rows == 0) → (not empty ≡ false → IsUnmarked db) × (not empty ≡ true → ¬ IsUnmarked db)
tells_marks db it rows shows empty is = (unmarked, marked)
  where
    table : length (map (shown_of Marks) (table_in db (part_name Marks))) ≡ length rows
    table = sym (length_permutation (map (shown_of Marks) (table_in db (part_name Marks))) rows shows)

    none_stored : (l : List Row) → length (map (shown_of Marks) l) ≡ 0 → l ≡ []
    none_stored [] e = refl
    none_stored (r ∷ rs) e = absurd (omega (arith, e))

    unmarked : not empty ≡ false → IsUnmarked db
    unmarked no_mark =
        let none : length rows ≡ 0 = (Decides-eqb (length rows) 0).0 (sym is ∙ not_false empty no_mark) in
        let bare : table_in db (part_name Marks) ≡ [] = none_stored _ (table ∙ none) in
        inr (record { marks = it; empty = subst (λ t. db.trees t ≡ []) (tree_in db.schema Marks it) bare })

    marked : not empty ≡ true → ¬ IsUnmarked db
    marked some (inl lacks) = let e : ◌≡◌ {A = Option ℕ} (Some it.at) None = sym it.finds.named ∙ lacks.table in absurd cc
    marked some (inr bare) = filled (length rows) empty is some
        (subst (λ l. length (map (shown_of Marks) l) ≡ length rows) (ap db.trees (tree_in db.schema Marks bare.marks) ∙ bare.empty) table)
