-- What a CREATE TABLE leaves of what a schema finds by name: it adds the table at the end.
use Rattle.std.proofs.Common.{inl, inr, ◌≡◌, ◌≤◌, ◌<◌, ◌==◌, ◌+◌, ◌^◌, nat_le, max, zero, suc, ℕ, List, [], ◌∷◌, ◌++◌}
use Rattle.std.proofs.Common.{length, Bool, true, false, cond, find, slice_get, Some, None, refl, ap, ◌∙◌, fold, arith}
use Rattle.std.specs.List.{position_from}
use Rattle.std.proofs.lemmas.Bool.{ne_eqb}
use Rattle.std.proofs.lemmas.Bool.Decides.{eqb_tells}
use Rattle.sqlite.specs.Schema.{Schema}
use Rattle.sqlite.specs.Table.{Table}
use Rattle.sqlite_schema.specs.declared.schema.Index.{Index}
use Rattle.sqlite_catalog.specs.Change.{past_views}
use Rattle.sqlite.specs.Change.{created, next_tree}
use Rattle.sqlite_schema.specs.Names.{same_name, table_named}
use Rattle.sqlite_resolve.specs.Scope.{Name}
use Rattle.store_tables.specs.Stored.{Finds}

module _ {K : Type 0} (p : K → Bool) where
  pub position_kept : (i at : ℕ) (xs ys : List K) → position_from p i xs ≡ Some at → position_from p i (xs ++ ys) ≡ Some at
  position_kept i at [] ys h = absurd cc
  position_kept i at (x ∷ xs) ys h = go (p x) h (position_kept (i + 1) at xs ys)
    where
      go : (b : Bool)
          → cond b (Some i) (position_from p (i + 1) xs) ≡ Some at → (position_from p (i + 1) xs ≡ Some at → position_from p (i + 1) (xs ++ ys) ≡ Some at)
          → cond b (Some i) (position_from p (i + 1) (xs ++ ys)) ≡ Some at
      go true e more = e
      go false e more = more e

  pub position_none : (i : ℕ) (xs ys : List K) → position_from p i xs ≡ None → position_from p i (xs ++ ys) ≡ position_from p (i + length xs) ys
  position_none i [] ys h = ap (λ n. position_from p n ys) (omega arith)
  position_none i (x ∷ xs) ys h = go (p x) h (position_none (i + 1) xs ys)
    where
      go : (b : Bool) → cond b (Some i) (position_from p (i + 1) xs) ≡ None
          → (position_from p (i + 1) xs ≡ None → position_from p (i + 1) (xs ++ ys) ≡ position_from p (i + 1 + length xs) ys)
          → cond b (Some i) (position_from p (i + 1) (xs ++ ys)) ≡ position_from p (i + suc (length xs)) ys
      go true e more = absurd cc
      go false e more = more e ∙ ap (λ n. position_from p n ys) (omega arith)

  pub find_kept : (x : K) (xs ys : List K) → find p xs ≡ Some x → find p (xs ++ ys) ≡ Some x
  find_kept x [] ys h = absurd cc
  find_kept x (y ∷ xs) ys h = go (p y) h (find_kept x xs ys)
    where
      go : (b : Bool) → cond b (Some y) (find p xs) ≡ Some x → (find p xs ≡ Some x → find p (xs ++ ys) ≡ Some x) → cond b (Some y) (find p (xs ++ ys)) ≡ Some x
      go true e more = e
      go false e more = more e

pub get_kept : {K : Type 0} (x : K) (xs ys : List K) (i : ℕ) → slice_get xs i ≡ Some x → slice_get (xs ++ ys) i ≡ Some x
get_kept x [] ys i h = absurd cc
get_kept x (y ∷ xs) ys zero h = h
get_kept x (y ∷ xs) ys (suc i) h = get_kept x xs ys i h

pub get_last : {K : Type 0} (x : K) (xs : List K) → slice_get (xs ++ x ∷ []) (length xs) ≡ Some x
get_last x [] = refl
get_last x (y ∷ xs) = get_last x xs

-- what was found is still found
pub finds_still : (s : Schema) (u : Table) (name : Name) (at : ℕ) (t : Table) → Finds s name at t → Finds (created s u) name at t
finds_still s u name at t it = record {
  named = position_kept (λ (v : Table). same_name v.name name) 0 at s.tables _ it.named;
  has = get_kept t s.tables _ at it.has;
  stored = it.stored;
  by_tree = find_kept (λ (v : Table). v.tree == t.tree) t s.tables _ it.by_tree;
}

-- each tree of the schema is below the next
pub grows : (n : ℕ) (ts : List Table) → n ≤ fold (λ n (t : Table). max n (t.tree + 1)) n ts
grows n [] = omega arith
grows n (t ∷ ts) = let h = grows (max n (t.tree + 1)) ts in omega arith

none_such : (n k : ℕ) (ts : List Table) → fold (λ n (t : Table). max n (t.tree + 1)) n ts ≤ k
    → (u : Table) → u.tree ≡ k → find (λ (v : Table). v.tree == k) (ts ++ u ∷ []) ≡ Some u
none_such n k [] h u is = rw is (rw (same k) refl)
  where
    same : (m : ℕ) → (m == m) ≡ true
    same m = elim (eqb_tells m m) [ inl is ↦ is.0 | inr apart ↦ absurd (apart.1 refl) ]
none_such n k (t ∷ ts) h u is =
    let up = grows (max n (t.tree + 1)) ts in
    let apart : (t.tree == k) ≡ false = other t.tree k (omega arith) in
    rw apart (none_such (max n (t.tree + 1)) k ts h u is)
  where
    other : (a b : ℕ) → a < b → (a == b) ≡ false
    other a b low = ne_eqb a b (λ e. omega (arith, e, low))

pub indexes_grow : (n : ℕ) (is : List Index) → n ≤ fold (λ n (i : Index). max n (i.tree + 1)) n is
indexes_grow n [] = omega arith
indexes_grow n (i ∷ is) = let h = indexes_grow (max n (i.tree + 1)) is in omega arith

-- the new table is found, by a name that was unused
pub finds_new : (s : Schema) (u : Table) (name : Name) → table_named s name ≡ None → same_name u.name name ≡ true → nat_le (2 ^ 31) (next_tree s) ≡ false
    → Finds (created s u) name (length s.tables) (record u { tree = next_tree s })
finds_new s u name free is low =
    let new : Table = record u { tree = next_tree s } in
    record {
      named = position_none (λ (v : Table). same_name v.name name) 0 s.tables (new ∷ []) free
          ∙ ap (λ b. cond b (Some (0 + length s.tables)) None) is ∙ ap Some (omega arith);
      has = get_last new s.tables;
      stored = low;
      by_tree = none_such (past_views s) (next_tree s) s.tables (indexes_grow _ s.indexes) new refl;
    }

-- another name stays unused
pub unused_still : (s : Schema) (u : Table) (name : Name) → table_named s name ≡ None → same_name u.name name ≡ false → table_named (created s u) name ≡ None
unused_still s u name free apart =
    position_none (λ (v : Table). same_name v.name name) 0 s.tables (record u { tree = next_tree s } ∷ []) free
    ∙ ap (λ b. cond b (Some (0 + length s.tables)) None) apart

-- ---- trees

-- each table that is found has a tree below the next
pub below_all : (q : Table → Bool) (n k : ℕ) (ts : List Table) (u : Table)
    → find q ts ≡ Some u → fold (λ n (t : Table). max n (t.tree + 1)) n ts ≤ k → u.tree < k
below_all q n k [] u h low = absurd cc
below_all q n k (t ∷ ts) u h low = go (q t) h (λ e. below_all q (max n (t.tree + 1)) k ts u e low)
  where
    go : (b : Bool) → cond b (Some t) (find q ts) ≡ Some u → (find q ts ≡ Some u → u.tree < k) → u.tree < k
    go true e more =
        let same : t ≡ u = cc in
        let up = grows (max n (t.tree + 1)) ts in
        let tree : t.tree ≡ u.tree = ap (λ (x : Table). x.tree) same in
        omega (arith, up, low, tree)
    go false e more = more e

pub below : (s : Schema) (q : Table → Bool) (u : Table) → find q s.tables ≡ Some u → u.tree < next_tree s
below s q u h = below_all q (past_views s) (next_tree s) s.tables u h (indexes_grow _ s.indexes)

-- what is not found is found at most at the end
pub find_last : {K : Type 0} (q : K → Bool) (xs : List K) (y : K) → find q xs ≡ None → find q (xs ++ y ∷ []) ≡ cond (q y) (Some y) None
find_last q [] y h = refl
find_last q (x ∷ xs) y h = go (q x) h (find_last q xs y)
  where
    go : (b : Bool) → cond b (Some x) (find q xs) ≡ None → (find q xs ≡ None → find q (xs ++ y ∷ []) ≡ cond (q y) (Some y) None)
        → cond b (Some x) (find q (xs ++ y ∷ [])) ≡ cond (q y) (Some y) None
    go true e more = absurd cc
    go false e more = more e

pub other_tree : (a b : ℕ) → a < b → (a == b) ≡ false
other_tree a b low = ne_eqb a b (λ e. omega (arith, e, low))

pub other_below : (a b : ℕ) → a < b → (b == a) ≡ false
other_below a b low = ne_eqb b a (λ e. omega (arith, e, low))
