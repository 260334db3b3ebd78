-- A table that is found by name is a desk's, where the schema has that.
use Rattle.std.proofs.Common.{arith, inl, inr, ◌≡◌, ◌≤◌, ◌<◌, ◌+◌, [], ◌∷◌, slice_index_or, ◌==◌, ◌^◌, nat_le, ℕ, zero, suc, List, length}
use Rattle.std.proofs.Common.{Bool, true, false, cond, find, slice_get, Option, Some, None, refl, sym, ap, subst, ◌∙◌}
use Rattle.std.specs.List.{position_from}
use Rattle.std.proofs.lemmas.Bool.{eqb-true}
use Rattle.std.proofs.lemmas.Bool.Decides.{eqb_tells}
use Rattle.std.proofs.lemmas.Option.{slice_get_read}
use Rattle.std.specs.Slice.{IsItemAt}
use denote.Ref.{Bor}
use Rattle.sqlite.specs.Schema.{Schema}
use Rattle.sqlite.specs.Table.{Table}
use Rattle.sqlite_schema.specs.declared.schema.Column.{Column}
use Rattle.sqlite_schema.specs.Names.{same_name, table_named}
use Rattle.store_tables.specs.Stored.{Finds}
use Rattle.store_schema.specs.declared.part.DeskPart.{DeskPart}
use Rattle.store_schema.specs.declared.part.DeskPart.TheVariants.{Desk, Messages, Names, Marks, Verdicts, Parked}
use Rattle.store_schema.specs.Parts.{IsPart, part_name, table_at}
use Rattle.store_schema.specs.Shapes.{FindsPart}

-- what a slice lends is what is at the place
pub lent_at : (ts all : List Table) (at : ℕ) (r : Option (Bor Table)) (t : Bor Table) → ts ≡ all → IsItemAt ts at r → r ≡ Some t → slice_get all at ≡ Some t.now
lent_at ts all at None t same item is = let e : ◌≡◌ {A = Option (Bor Table)} None (Some t) = is in absurd cc
lent_at ts all at (Some x) t same item is =
    let one : x ≡ t = cc in
    let has : slice_get ts at ≡ Some x.now = slice_get_read ts (length ts) at x.now refl item.3.0 item.1 in
    ap (λ us. slice_get us at) (sym same) ∙ has ∙ ap (λ (y : Bor Table). Some y.now) one

-- the first place is not before that from which it was looked for
place_low : {K : Type 0} (p : K → Bool) (i at : ℕ) (xs : List K) → position_from p i xs ≡ Some at → i ≤ at
place_low p i at [] h = absurd cc
place_low p i at (x ∷ xs) h = go (p x) h (λ later. place_low p (i + 1) at xs later)
  where
    go : (b : Bool) → cond b (Some i) (position_from p (i + 1) xs) ≡ Some at → (position_from p (i + 1) xs ≡ Some at → i + 1 ≤ at) → i ≤ at
    go true e more = let same : i ≡ at = cc in omega (arith, same)
    go false e more = let low = more e in omega (arith, low)

-- what stands at the first place is what is found
pub found_at : {K : Type 0} (p : K → Bool) (i k at : ℕ) (xs : List K) (x : K)
    → at ≡ i + k → position_from p i xs ≡ Some at → slice_get xs k ≡ Some x → find p xs ≡ Some x
found_at p i k at [] x sum h has = absurd cc
found_at p i zero at (y ∷ ys) x sum h has = go (p y) h
  where
    go : (b : Bool) → cond b (Some i) (position_from p (i + 1) ys) ≡ Some at → cond b (Some y) (find p ys) ≡ Some x
    go true e = has
    go false e = let low = place_low p (i + 1) at ys e in absurd (omega (arith, sum, low))
found_at p i (suc k) at (y ∷ ys) x sum h has = go (p y) h (λ later. found_at p (i + 1) k at ys x (omega (arith, sum)) later has)
  where
    go : (b : Bool) → cond b (Some i) (position_from p (i + 1) ys) ≡ Some at
        → (position_from p (i + 1) ys ≡ Some at → find p ys ≡ Some x) → cond b (Some y) (find p ys) ≡ Some x
    go true e more = let same : i ≡ at = cc in absurd (omega (arith, sum, same))
    go false e more = more e

-- what is found by both tests is at the first place of both
pub placed_at : {K : Type 0} (p q : K → Bool) (i k at : ℕ) (xs : List K) (x : K) → at ≡ i + k → q x ≡ true
    → position_from q i xs ≡ Some at → slice_get xs k ≡ Some x → p x ≡ true → find p xs ≡ Some x → position_from p i xs ≡ Some at
placed_at p q i k at [] x sum is h has fits found = absurd cc
placed_at p q i zero at (y ∷ ys) x sum is h has fits found =
    let here : y ≡ x = cc in
    let one : p y ≡ true = ap p here ∙ fits in
    let same : i ≡ at = omega (arith, sum) in
    ap (λ b. cond b (Some i) (position_from p (i + 1) ys)) one ∙ ap (λ n. Some n) same
placed_at p q i (suc k) at (y ∷ ys) x sum is h has fits found = go (q y) refl h (p y) refl found
    (λ later next. placed_at p q (i + 1) k at ys x (omega (arith, sum)) is later has fits next)
  where
    go : (a : Bool) → q y ≡ a → cond a (Some i) (position_from q (i + 1) ys) ≡ Some at → (b : Bool) → p y ≡ b → cond b (Some y) (find p ys) ≡ Some x
        → (position_from q (i + 1) ys ≡ Some at → find p ys ≡ Some x → position_from p (i + 1) ys ≡ Some at)
        → cond b (Some i) (position_from p (i + 1) ys) ≡ Some at
    go true a e b c f more = let same : i ≡ at = cc in absurd (omega (arith, sum, same))
    go false a e true c f more = let here : y ≡ x = cc in absurd (let no : true ≡ false = sym is ∙ ap q (sym here) ∙ a in cc)
    go false a e false c f more = more e f

pub same_number : (m : ℕ) → (m == m) ≡ true
same_number m = elim (eqb_tells m m) [ inl is ↦ is.0 | inr apart ↦ absurd (apart.1 refl) ]

pub tree_is : (part : DeskPart) (n : ℕ) → (table_at part n).tree ≡ n
tree_is Desk n = refl
tree_is Messages n = refl
tree_is Names n = refl
tree_is Marks n = refl
tree_is Verdicts n = refl
tree_is Parked n = refl

-- the table that is made of a part is the part's
pub made_is : (part : DeskPart) (n : ℕ) → IsPart part (table_at part n)
made_is Desk n = refl
made_is Messages n = refl
made_is Names n = refl
made_is Marks n = (refl, refl)
made_is Verdicts n = refl
made_is Parked n = refl

pub name_in : (part : DeskPart) (t : Table) → IsPart part t → t.name ≡ part_name part
name_in Desk t is = ap (λ (u : Table). u.name) is
name_in Messages t is = ap (λ (u : Table). u.name) is
name_in Names t is = ap (λ (u : Table). u.name) is
name_in Marks t is = is.0
name_in Verdicts t is = ap (λ (u : Table). u.name) is
name_in Parked t is = ap (λ (u : Table). u.name) is

itself : (part : DeskPart) → same_name (part_name part) (part_name part) ≡ true
unfolding same_name
itself Desk = refl
itself Messages = refl
itself Names = refl
itself Marks = refl
itself Verdicts = refl
itself Parked = refl

pub named_so : (part : DeskPart) (t : Table) → IsPart part t → same_name t.name (part_name part) ≡ true
named_so part t is = ap (λ n. same_name n (part_name part)) (name_in part t is) ∙ itself part

-- a table that is the first of its name and of its tree is found
pub finds_both : (s : Schema) (name : List ℕ) (at : ℕ) (t : Table) → table_named s name ≡ Some at → slice_get s.tables at ≡ Some t
    → nat_le (2 ^ 31) t.tree ≡ false → position_from (λ (u : Table). u.tree == t.tree) 0 s.tables ≡ Some at → Finds s name at t
finds_both s name at t named has stored first = record {
  named = named;
  has = has;
  stored = stored;
  by_tree = found_at (λ (u : Table). u.tree == t.tree) 0 at at s.tables t (omega arith) first has;
}

-- and one that is found is the first of both
pub first_of_both : (s : Schema) (part : DeskPart) (it : FindsPart s part)
    → position_from (λ (u : Table). u.tree == it.table.tree) 0 s.tables ≡ Some it.at
first_of_both s part it =
    placed_at (λ (u : Table). u.tree == it.table.tree) (λ (u : Table). same_name u.name (part_name part)) 0 it.at it.at s.tables it.table (omega arith)
    (named_so part it.table it.is) it.finds.named it.finds.has (same_number it.table.tree) it.finds.by_tree

-- the table that was got by the part's name is the one that is found
pub first_part : (part : DeskPart) (s : Schema) (ts : List Table) (at : ℕ) (got : Option (Bor Table)) (t : Bor Table) → ts ≡ s.tables → FindsPart s part
    → table_named s (part_name part) ≡ Some at → IsItemAt ts at got → got ≡ Some t
    → IsPart part t.now × (nat_le (2 ^ 31) t.now.tree ≡ false) × (position_from (λ (u : Table). u.tree == t.now.tree) 0 ts ≡ Some at)
first_part part s ts at got t same it named item is =
    let both : Some it.at ≡ Some at = sym it.finds.named ∙ named in
    let place : it.at ≡ at = cc in
    let two : Some it.table ≡ Some t.now = sym it.finds.has ∙ ap (slice_get s.tables) place ∙ lent_at ts s.tables at got t same item is in
    let table : it.table ≡ t.now = cc in
    let first : position_from (λ (u : Table). u.tree == it.table.tree) 0 ts ≡ Some at =
    ap (position_from (λ (u : Table). u.tree == it.table.tree) 0) same ∙ first_of_both s part it ∙ ap (λ n. Some n) place in (
      subst (IsPart part) table it.is,
      subst (λ (u : Table). nat_le (2 ^ 31) u.tree ≡ false) table it.finds.stored,
      subst (λ (u : Table). position_from (λ (v : Table). v.tree == u.tree) 0 ts ≡ Some at) table first,
    )

-- and one that is the first of its tree is found
pub found_first : (part : DeskPart) (s : Schema) (ts : List Table) (at : ℕ) (got : Option (Bor Table)) (t : Bor Table) (first : ℕ) → ts ≡ s.tables
    → table_named s (part_name part) ≡ Some at → IsItemAt ts at got → got ≡ Some t → IsPart part t.now → nat_le (2 ^ 31) t.now.tree ≡ false
    → position_from (λ (u : Table). u.tree == t.now.tree) 0 ts ≡ Some first → (first == at) ≡ true → FindsPart s part
found_first part s ts at got t first same named item is part_is stored placed test =
    let one : first ≡ at = eqb-true first at test in
    record {
      at = at;
      table = t.now;
      finds = finds_both s (part_name part) at t.now named (lent_at ts s.tables at got t same item is) stored
          (ap (position_from (λ (u : Table). u.tree == t.now.tree) 0) (sym same) ∙ placed ∙ ap (λ n. Some n) one);
      is = part_is;
    }

pub one_place : (a b : ℕ) → ◌≡◌ {A = Option ℕ} (Some a) (Some b) → (a == b) ≡ true
one_place a b e = let same : a ≡ b = cc in ap (λ n. a == n) (sym same) ∙ same_number a

pub no_place : {P : Type 0} (o : Option ℕ) (a : ℕ) → o ≡ None → o ≡ Some a → P
no_place o a none some = let e : ◌≡◌ {A = Option ℕ} None (Some a) = sym none ∙ some in absurd cc

-- a list of four
pub four : (cs : List Column) (a b c d : Column) → 4 ≤ length cs → length cs < 5 → a ≡ slice_index_or cs 0 a
    → b ≡ slice_index_or cs 1 b → c ≡ slice_index_or cs 2 c → d ≡ slice_index_or cs 3 d → cs ≡ a ∷ b ∷ c ∷ d ∷ []
four [] a b c d low high ea eb ec ed = absurd (omega (arith, low))
four (p ∷ []) a b c d low high ea eb ec ed = absurd (omega (arith, low))
four (p ∷ q ∷ []) a b c d low high ea eb ec ed = absurd (omega (arith, low))
four (p ∷ q ∷ r ∷ []) a b c d low high ea eb ec ed = absurd (omega (arith, low))
four (p ∷ q ∷ r ∷ s ∷ []) a b c d low high ea eb ec ed = rw (ea, eb, ec, ed) refl
four (p ∷ q ∷ r ∷ s ∷ t ∷ more) a b c d low high ea eb ec ed = absurd (omega (arith, high))
