-- What a query by the name shows of the rows of a table, and what is left without the rows that it finds.
use Rattle.std.proofs.Common.{arith, ◌≡◌, ◌⊎◌, inl, inr, ℕ, suc, ℤ, pos, ◌^◌, nat_le, List, [], ◌∷◌, ◌++◌}
use Rattle.std.proofs.Common.{map, Bool, true, false, cond, not, Some, refl, sym, ap, subst, ◌∙◌, true≢false}
use Rattle.std.proofs.lemmas.Bool.{and_parts, not-true}
use Rattle.std.specs.List.{list_all, list_any, flat_map}
use Rattle.std.specs.List.Sorted.{IsPermutation}
use Rattle.std.proofs.lemmas.List.Sorted.{Contains-permutation, IsPermutation-sym}
use Rattle.std.specs.Ordering.{is_eq, int_cmp}
use Rattle.std.specs.declared.cmp.Ordering.TheVariants.{Equal}
use Rattle.std.specs.Cmp.{Equal-is, int_ranks}
use Rattle.std.proofs.lemmas.Cmp.{tied_itself}
use Rattle.sqlite.specs.declared.types.Value.{Value}
use Rattle.sqlite.specs.declared.types.Value.TheVariants.{Null, Int, Real, Text, Blob}
use Rattle.sqlite.specs.Order.{Row, column, value_cmp}
use Rattle.sqlite.specs.Ops.{binary, is_true, from_truth}
use Rattle.sqlite.specs.Term.{Term, Env, holds, eval_all}
use Rattle.sqlite.specs.Query.{Query, IsAnswer, Output, output}
use Rattle.sqlite.specs.Program.{overlay}
use Rattle.sqlite.specs.Tree.{Trees, rowid, has_rowid, without_rowid}
use Rattle.sqlite.specs.Edit.{id_in, without_all, put_all, are_fresh, is_taken}
use Rattle.sqlite.specs.View.{is_int}
use Rattle.sqlite_sql.specs.declared.ops.BinaryOp.TheVariants.{Compare}
use Rattle.sqlite_sql.specs.declared.ops.CompareOp.TheVariants.{Eq}
use Rattle.sqlite.specs.Collation.TheVariants.{Binary}
use Rattle.sqlite_value.proofs.OrderLemmas.{value_cmp-Int, value_cmp-apart, value_cmp_total}
use Rattle.sqlite_rules.specs.Lists.{Has}
use Rattle.sqlite_rules.specs.Calls.{ids_of}
use Rattle.sqlite_rules.proofs.ListLemmas.{contains_had, has_contained, has_filtered, has_kept, has_right, some_from}
use Rattle.sqlite_rules.proofs.ProbeLemmas.{has_mapped, mapped_has}
use Rattle.sqlite_rules.proofs.TableLemmas.{int_is, put_all_has, without_all_has}
use Rattle.messages.specs.declared.request_name.RequestName.{RequestName}
use Rattle.store_tables.specs.Rows.{IsRow, OfName}
use Rattle.store_tables.specs.Kept.{IsKeyed, IsNoReal}
use Rattle.store_tables.specs.private.Changes.{Loses}
use Rattle.store_tables.proofs.TextSets.{same_text}
use Rattle.store_tables.proofs.LookupLemmas.{finds_text}
use Rattle.store_tables.proofs.AddLemmas.{is_same}
use Rattle.store_tables.proofs.Where.{by_name, reading, scanning}

-- ---- members of lists

pub has_permuted : {X : Type 0} (xs ys : List X) (x : X) → IsPermutation xs ys → Has xs x → Has ys x
has_permuted xs ys x same h = has_contained ys x (Contains-permutation xs ys x same (contains_had xs x h))

module _ {X Y : Type 0} (p : X → Bool) (f : X → Y) where
  abbrev pub picked : List X → List Y
  picked = flat_map (λ x. cond (p x) (f x ∷ []) [])

  pub has_picked : (xs : List X) (y : Y) → Has (picked xs) y → (x : X) × Has xs x × (p x ≡ true) × (y ≡ f x)
  has_picked [] y h = absurd h
  has_picked (x ∷ xs) y h = go (p x) refl h (has_picked xs y)
    where
      go : (b : Bool) → p x ≡ b → Has (cond b (f x ∷ []) [] ++ picked xs) y
          → (Has (picked xs) y → (z : X) × Has xs z × (p z ≡ true) × (y ≡ f z)) → (z : X) × Has (x ∷ xs) z × (p z ≡ true) × (y ≡ f z)
      go true is (inl same) later = (x, inl refl, is, same)
      go true is (inr there) later = let r = later there in (r.0, inr r.1, r.2, r.3)
      go false is there later = let r = later there in (r.0, inr r.1, r.2, r.3)

  pub picked_has : (xs : List X) (x : X) → Has xs x → p x ≡ true → Has (picked xs) (f x)
  picked_has [] x h passes = absurd h
  picked_has (z ∷ xs) x (inl same) passes = rw (← same, passes) (inl refl)
  picked_has (z ∷ xs) x (inr later) passes = has_right (cond (p z) (f z ∷ []) []) (picked xs) (f x) (picked_has xs x later passes)

-- ---- the values

int_equal : (m n : ℤ) → int_cmp m n ≡ Equal → m ≡ n
int_equal m n e = let ranks = int_ranks m n in rw e at ranks

truth_is : (b : Bool) → is_true (from_truth (Some b)) ≡ b
truth_is true = refl
truth_is false = refl

-- SQL's = finds the whole number alone, but for reals
finds_int : (n : ℤ) (v : Value) → IsNoReal v → is_true (binary (Compare Eq Binary) v (Int n)) ≡ true → v ≡ Int n
unfolding binary
finds_int n Null plain h = absurd (true≢false (sym h))
finds_int n (Int m) plain h = ap Int (int_equal m n (sym (value_cmp-Int m n) ∙ (Equal-is (value_cmp (Int m) (Int n))).0 (sym (truth_is _) ∙ h)))
finds_int n (Real x) plain h = absurd plain
finds_int n (Text t) plain h =
    absurd (true≢false (sym h ∙ ap (λ o. is_true (from_truth (Some (is_eq o)))) (value_cmp-apart (Text t) (Int n) (λ e. omega (arith, e)))))
finds_int n (Blob b) plain h =
    absurd (true≢false (sym h ∙ ap (λ o. is_true (from_truth (Some (is_eq o)))) (value_cmp-apart (Blob b) (Int n) (λ e. omega (arith, e)))))

int_found : (n : ℤ) → is_true (binary (Compare Eq Binary) (Int n) (Int n)) ≡ true
unfolding binary
int_found n = ap (λ o. is_true (from_truth (Some (is_eq o)))) (tied_itself value_cmp_total (Int n))

text_of : (t : List ℕ) (v : Value) → list_any (same_text t) (Rattle.store_tables.specs.Stored.text_in v) ≡ true → v ≡ Text t
text_of t Null h = absurd (true≢false (sym h))
text_of t (Int n) h = absurd (true≢false (sym h))
text_of t (Real x) h = absurd (true≢false (sym h))
text_of t (Text s) h = go (same_text t s) refl h
  where
    go : (b : Bool) → same_text t s ≡ b → list_any (same_text t) (s ∷ []) ≡ true → Text s ≡ Text t
    go true is h = ap Text (sym (is_same t s is))
    go false is h = absurd (true≢false (sym (rw is at h)))
text_of t (Blob b) h = absurd (true≢false (sym h))

finds_that : (t : List ℕ) (v : Value) → is_true (binary (Compare Eq Binary) v (Text t)) ≡ true → v ≡ Text t
finds_that t v h = text_of t v (sym (finds_text t v) ∙ h)

text_found : (t : List ℕ) → is_true (binary (Compare Eq Binary) (Text t) (Text t)) ≡ true
unfolding binary
text_found t = ap (λ o. is_true (from_truth (Some (is_eq o)))) (tied_itself value_cmp_total (Text t))

-- ---- the rows of a name

module _ (name : RequestName) (at : ℕ) where
  abbrev pub given : Row
  given = Text name.by ∷ Int (pos name.no) ∷ []

  abbrev env : Row → Env
  env r = given ∷ r ∷ []

  abbrev is_found : Row → Bool
  is_found r = list_all (holds (env r)) (by_name (suc at) (suc (suc at)))

  -- the row is found exactly where it is of the name
  found_is : (id : Value) (values : List Value) → IsNoReal (column values (suc at)) → is_found (id ∷ values) ≡ true → OfName at name values
  found_is id values plain h =
      let parts = and_parts _ _ h in
      (finds_that name.by (column values at) parts.0, finds_int (pos name.no) (column values (suc at)) plain (and_parts _ _ parts.1).0)

  is_by_name : (id : Value) (values : List Value) → OfName at name values → is_found (id ∷ values) ≡ true
  is_by_name id values is = rw (is.0, is.1, text_found name.by, int_found (pos name.no)) refl

  none_found : is_found [] ≡ true → ⊥
  none_found h = let is = finds_that name.by Null (and_parts _ _ h).0 in cc

module _ (name : RequestName) (at tree : ℕ) (project : List Term) (old : Trees) (low : nat_le (2 ^ 31) tree ≡ false) (plain : (values : List Value)
    → IsRow (old tree) values → IsNoReal (column values (suc at))) where
  abbrev q : Query
  q = reading tree at project

  abbrev shown : Row → Row
  shown r = eval_all project (given name at ∷ r ∷ [])

  overlay_none : overlay old [] tree ≡ old tree
  overlay_none = rw low refl

  module _ (rows : List Row) (a : IsAnswer q (overlay old []) (given name at) rows) where
    abbrev all : List Env
    all = picked (is_found name at) (env name at) (old tree)

    kept_is : a.kept ≡ map (output q) all
    kept_is = a.distinct ∙ ap (map (output q)) (a.grouped ∙ ap (picked (is_found name at) (env name at)) overlay_none)

    -- what is shown is of a row of the name
    pub answered : (x : Row) → Has rows x
        → (id : Value) × (values : List Value) × Has (old tree) (id ∷ values) × OfName at name values × (x ≡ shown (id ∷ values))
    answered x h =
        let o = has_mapped (λ (k : Output). k.1) a.ordered x (subst (λ l. Has l x) a.shown h) in
        let e = has_mapped (output q) all o.0 (subst (λ l. Has l o.0) kept_is (has_permuted a.ordered a.kept o.0 (IsPermutation-sym _ _ a.same) o.1)) in
        let r = has_picked (is_found name at) (env name at) (old tree) e.0 e.1 in
        go r.0 r.1 r.2 (o.2 ∙ ap (λ (k : Output). k.1) (e.2 ∙ ap (output q) r.3))
      where
        go : (r : Row) → Has (old tree) r → is_found name at r ≡ true → x ≡ shown r
            → (id : Value) × (values : List Value) × Has (old tree) (id ∷ values) × OfName at name values × (x ≡ shown (id ∷ values))
        go [] there found is = absurd (none_found name at found)
        go (id ∷ values) there found is = (id, values, there, found_is name at id values (plain values (id, there)) found, is)

    -- each row of the name is shown
    pub answers : (id : Value) (values : List Value) → Has (old tree) (id ∷ values) → OfName at name values → Has rows (shown (id ∷ values))
    answers id values there is =
        let r : Row = id ∷ values in
        let o = output q (env name at r) in
        let found = picked_has (is_found name at) (env name at) (old tree) r there (is_by_name name at id values is) in
        let kept = subst (λ l. Has l o) (sym kept_is) (mapped_has (output q) all (env name at r) found) in
        subst (λ l. Has l (shown r)) (sym a.shown) (mapped_has (λ (k : Output). k.1) a.ordered o (has_permuted a.kept a.ordered o a.same kept))

-- ---- without the rows of a name

-- a row is left exactly where its rowid is not among those that are taken out
left_not : (ids : List ℤ) (rows : List Row) (x : Row) (id : ℤ) → Has (without_all rows ids) x → Has ids id → has_rowid id x ≡ false
left_not [] rows x id left there = absurd there
left_not (i ∷ ids) rows x id left (inr later) = left_not ids (without_rowid i rows) x id left later
left_not (i ∷ ids) rows x id left (inl same) =
    let kept = has_filtered (λ r. not (has_rowid i r)) rows x (without_all_has ids (without_rowid i rows) x left) in
    go (has_rowid i x) (ap (λ k. has_rowid k x) same) kept.1
  where
    go : (b : Bool) → has_rowid id x ≡ b → not b ≡ true → has_rowid id x ≡ false
    go true is no_such = absurd (true≢false (sym no_such))
    go false is no_such = is

stays_left : (ids : List ℤ) (rows : List Row) (x : Row) → Has rows x → ((id : ℤ) → Has ids id → has_rowid id x ≡ false) → Has (without_all rows ids) x
stays_left [] rows x there none = there
stays_left (i ∷ ids) rows x there none =
    stays_left ids (without_rowid i rows) x (has_kept (λ r. not (has_rowid i r)) rows x there (ap not (none i (inl refl)))) (λ id later. none id (inr later))

rowid_is : (x : Row) → is_int (rowid x) ≡ true → has_rowid (id_in (rowid x)) x ≡ true
rowid_is x keyed = ap (λ v. is_eq (value_cmp (rowid x) v)) (sym (int_is (rowid x) keyed)) ∙ ap is_eq (tied_itself value_cmp_total (rowid x))

same_rowid : (x : Row) (id : ℤ) → is_int (rowid x) ≡ true → has_rowid id x ≡ true → rowid x ≡ Int id
same_rowid x id keyed h =
    let is = int_is (rowid x) keyed in
    let equal = (Equal-is (value_cmp (rowid x) (Int id))).0 h in
    is ∙ ap Int (int_equal (id_in (rowid x)) id (sym (value_cmp-Int (id_in (rowid x)) id) ∙ ap (λ v. value_cmp v (Int id)) (sym is) ∙ equal))

-- Without the rowids that the query finds, exactly the rows of the name are gone.
pub loses_name : (name : RequestName) (at : ℕ) (old : List Row) (rows : List Row) → IsKeyed old
    → ((x : Row) → Has rows x → (id : Value) × (values : List Value) × Has old (id ∷ values) × OfName at name values × (x ≡ id ∷ []))
    → ((id : Value) (values : List Value) → Has old (id ∷ values) → OfName at name values → Has rows (id ∷ []))
    → Loses (OfName at name) (IsRow old) (IsRow (without_all old (ids_of rows)))
loses_name name at old rows keyed sound complete = record { each = each; kept = kept }
  where
    each : (r : List Value) → IsRow (without_all old (ids_of rows)) r → IsRow old r × (¬ OfName at name r)
    each r (id, has) =
        let was = without_all_has (ids_of rows) old (id ∷ r) has in (
          (id, was),
          λ of_name.
              let there = mapped_has (λ x. id_in (rowid x)) rows (id ∷ []) (complete id r was of_name) in
              true≢false (sym (rowid_is (id ∷ r) (keyed.ints (id ∷ r) was)) ∙ left_not (ids_of rows) old (id ∷ r) (id_in id) has there),
        )

    kept : (r : List Value) → IsRow old r → (¬ OfName at name r) → IsRow (without_all old (ids_of rows)) r
    kept r (id, has) other =
        (id, stays_left (ids_of rows) old (id ∷ r) has (λ i there. go i (has_rowid i (id ∷ r)) refl (has_mapped (λ x. id_in (rowid x)) rows i there)))
      where
        go : (i : ℤ) (b : Bool) → has_rowid i (id ∷ r) ≡ b → (x : Row) × Has rows x × (i ≡ id_in (rowid x)) → has_rowid i (id ∷ r) ≡ false
        go i false is it = is
        go i true is it =
            let found = sound it.0 it.1 in
            let its : rowid it.0 ≡ found.0 = ap rowid found.4 in
            let mine : id ≡ Int i = same_rowid (id ∷ r) i (keyed.ints (id ∷ r) has) is in
            let theirs : found.0 ≡ Int i = int_is found.0 (keyed.ints (found.0 ∷ found.1) found.2) ∙ ap (λ v. Int (id_in v)) (sym its) ∙ ap Int (sym it.2) in
            let one : id ∷ r ≡ found.0 ∷ found.1 = keyed.once (id ∷ r) (found.0 ∷ found.1) has found.2 (mine ∙ sym theirs) in
            absurd (other (subst (OfName at name) (sym (tail_is id found.0 r found.1 one)) found.3))
          where
            tail_is : (a b : Value) (xs ys : List Value) → ◌≡◌ {A = List Value} (a ∷ xs) (b ∷ ys) → xs ≡ ys
            tail_is a b xs ys e = cc

-- what is left is keyed still
pub keyed_less : (old : List Row) (ids : List ℤ) → IsKeyed old → IsKeyed (without_all old ids)
keyed_less old ids keyed = record {
  ints = λ r there. keyed.ints r (without_all_has ids old r there);
  once = λ a b here there. keyed.once a b (without_all_has ids old a here) (without_all_has ids old b there);
}

-- a row with a fresh rowid keeps the table keyed
pub keyed_more : (n : ℤ) (values : List Value) (old new : List Row) → are_fresh old ((Int n ∷ values) ∷ []) ≡ true
    → new ≡ put_all old ((Int n ∷ values) ∷ []) → IsKeyed old → IsKeyed new
keyed_more n values old new fresh is keyed = record {
  ints = λ r there. elim (whence r there) [ inl same ↦ ap (λ x. is_int (rowid x)) same | inr was ↦ keyed.ints r was ];
  once = λ a b here there same. go a b (whence a here) (whence b there) same;
}
  where
    row : Row
    row = Int n ∷ values

    whence : (r : Row) → Has new r → (r ≡ row) ⊎ Has old r
    whence r there = elim (put_all_has (row ∷ []) old r (subst (λ rows. Has rows r) is there)) [
      | inl put ↦ elim put [ inl same ↦ inl same | inr none ↦ absurd none ]
      | inr was ↦ inr was
    ]

    not_there : (r : Row) → Has old r → rowid r ≡ Int n → ⊥
    not_there r was same =
        let free = not-true (is_taken old row) (and_parts _ _ fresh).0 in
        let taken = some_from (λ (x : Row). is_eq (value_cmp (rowid x) (Int n))) old r was
        (ap (λ v. is_eq (value_cmp v (Int n))) same ∙ ap is_eq (tied_itself value_cmp_total (Int n))) in
        true≢false (sym taken ∙ free)

    go : (a b : Row) → (a ≡ row) ⊎ Has old a → (b ≡ row) ⊎ Has old b → rowid a ≡ rowid b → a ≡ b
    go a b (inl x) (inl y) same = x ∙ sym y
    go a b (inl x) (inr y) same = absurd (not_there b y (sym same ∙ ap rowid x))
    go a b (inr x) (inl y) same = absurd (not_there a x (same ∙ ap rowid y))
    go a b (inr x) (inr y) same = keyed.once a b x y same

-- ---- without any row

module _ (tree : ℕ) (old : Trees) (low : nat_le (2 ^ 31) tree ≡ false) (rows : List Row) (a : IsAnswer (scanning tree) (overlay old []) [] rows) where
  -- each rowid is shown
  pub scanned : (r : Row) → Has (old tree) r → Has rows (rowid r ∷ [])
  scanned r there =
      let env : Row → Env = λ x. [] ∷ x ∷ [] in
      let p : Row → Bool = λ x. true in
      let below : overlay old [] tree ≡ old tree = rw low refl in
      let kept : a.kept ≡ map (output (scanning tree)) (picked p env (old tree)) =
      a.distinct ∙ ap (map (output (scanning tree))) (a.grouped ∙ ap (picked p env) below) in
      let o = output (scanning tree) (env r) in
      let found =
      subst (λ l. Has l o) (sym kept) (mapped_has (output (scanning tree)) (picked p env (old tree)) (env r) (picked_has p env (old tree) r there refl)) in
      subst (λ l. Has l (rowid r ∷ [])) (sym a.shown) (mapped_has (λ (k : Output). k.1) a.ordered o (has_permuted a.kept a.ordered o a.same found))

-- Without the rowids that were found no row is left.
pub none_left : (old rows : List Row) → IsKeyed old → ((r : Row) → Has old r → Has rows (rowid r ∷ [])) → (x : Row) → ¬ Has (without_all old (ids_of rows)) x
none_left old rows keyed complete x left =
    let was = without_all_has (ids_of rows) old x left in
    let there = mapped_has (λ r. id_in (rowid r)) rows (rowid x ∷ []) (complete x was) in
    true≢false (sym (rowid_is x (keyed.ints x was)) ∙ left_not (ids_of rows) old x (id_in (rowid x)) left there)
