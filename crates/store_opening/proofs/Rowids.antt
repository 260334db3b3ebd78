-- What a SELECT of the rowid and the columns of one table means, for any schema that finds the table.
use Rattle.std.proofs.Common.{Bool, None, Some, slice_get, true, false, ◌≡◌, List, [], ◌∷◌, ◌++◌, ◌-◌, ◌^◌}
use Rattle.std.proofs.Common.{option_and_then, option_map, unwrap_or, suc, nat_lt, nat_le, ℕ, Ok, codes, refl, sym, ◌∙◌, true≢false, inl, inr, arith}
use Rattle.std.proofs.lemmas.Bool.Decides.{leb_tells}
use Rattle.sqlite.specs.Term.{Term, col}
use Rattle.sqlite.specs.Schema.{Schema}
use Rattle.sqlite.specs.Table.{Table}
use Rattle.sqlite_schema.specs.declared.schema.Column.{Column as Column'}
use Rattle.sqlite_schema.specs.Names.{column_named, same_name}
use Rattle.sqlite_resolve.specs.Lowering.{Checked, begin, either, finish, nothing, spend}
use Rattle.sqlite_resolve.specs.declared.state.State.{State}
use Rattle.sqlite_resolve.specs.declared.scope.Level.{Level}
use Rattle.sqlite_resolve.specs.declared.scope.Output.{Output}
use Rattle.sqlite_resolve.specs.declared.scope.Found.TheVariants.{Rowid}
use Rattle.sqlite_resolve.specs.Scope.{Context, Name, column, column_in, find, hit, in_level, is_among, is_rowid, only, rowid_in, term_of}
use Rattle.sqlite_resolve.specs.Select.{outermost}
use Rattle.sqlite_resolve.specs.Expr.{lower, lower_to, node, opened, passes}
use Rattle.sqlite_resolve.specs.Body.{declared, heading, outputs, result, shown, within}
use Rattle.sqlite_ast.specs.declared.Expr.{Expr, out-Expr}
use Rattle.sqlite_ast.specs.declared.Expr.TheOpen.{Expr-F}
use Rattle.sqlite_ast.specs.declared.Shown.{Shown as Written}
use Rattle.sqlite_ast.specs.declared.Core.{Core, out-Core}
use Rattle.store_tables.proofs.Layers.{shown_is}
use Rattle.store_tables.proofs.QueriesOf.{IsColumn}
use Rattle.store_tables.proofs.Selects.{level_at}

-- ---- the rowid

abbrev pub rowid_name : Name
rowid_name = codes "rowid"

low_is : (tree : ℕ) → nat_le (2 ^ 31) tree ≡ false → nat_lt tree (2 ^ 31) ≡ true
low_is tree h = elim (leb_tells (2 ^ 31) tree) [
  | inl it ↦ absurd (true≢false (sym it.0 ∙ h))
  | inr it ↦ elim (leb_tells (suc tree) (2 ^ 31)) [ inl below ↦ below.0 | inr above ↦ absurd (let a = it.1 in let b = above.1 in omega (arith, a, b)) ]
]

named_rowid : is_rowid rowid_name ≡ true
unfolding is_rowid same_name
named_rowid = refl

find_rowid : (s : Schema) (table : Name) (m slot : ℕ) (t : Table) (outer : List Level) (seen : List Output) (agg alias : Bool)
    → slice_get s.tables m ≡ Some t → column_named t rowid_name ≡ None → nat_lt t.tree (2 ^ 31) ≡ true → find (record {
      schema = s;
      levels = record { tables = record { name = table; table = m; slot = slot; shared = [] } ∷ []; shown = seen } ∷ outer;
      may_aggregate = agg;
      may_alias = alias;
    }) None rowid_name ≡ Ok (Rowid slot m)
unfolding find in_level only hit column_in rowid_in is_among
find_rowid s table m slot t outer seen agg alias has none low = rw (has, none, named_rowid, low) refl

rowid_is : (cx : Context) (slot m : ℕ) (st : State) → find cx None rowid_name ≡ Ok (Rowid slot m)
    → column cx None rowid_name st ≡ Ok (col slot 0, record st { last = nothing })
unfolding column term_of
rowid_is cx slot m st found = rw found refl

lower_rowid : (n : ℕ) (cx : Context) (e : Expr) (slot m : ℕ) (st : State) → out-Expr e ≡ Expr-F.Column None rowid_name
    → nat_lt 1 st.budget ≡ true → find cx None rowid_name ≡ Ok (Rowid slot m)
    → lower_to (suc n) cx e st ≡ Ok (col slot 0, record st { budget = st.budget - 1; written = either st.written None; last = nothing })
unfolding lower_to node opened passes begin finish spend
lower_rowid n cx e slot m st is paid found = rw (paid, is, rowid_is cx slot m (record st { budget = st.budget - 1; written = None; last = nothing }) found) refl

rowid_heading : (cx : Context) (e : Expr) (text : Name) (slot m : ℕ) (t : Table) → out-Expr e ≡ Expr-F.Column None rowid_name
    → find cx None rowid_name ≡ Ok (Rowid slot m) → slice_get cx.schema.tables m ≡ Some t → t.key ≡ None → heading cx e text ≡ rowid_name
unfolding heading declared
rowid_heading cx e text slot m t is found has no_key = rw (is, found, has, no_key) refl

abbrev pub rowid_output : Output
rowid_output = record { name = rowid_name; is_alias = false; is_column = true; term = col 1 0; carried = nothing }

abbrev pub after_rowid : State → State
after_rowid st = record st { budget = st.budget - 1; written = either st.written None; last = nothing }

pub rowid_shown : (s : Schema) (table : Name) (m : ℕ) (t : Table) (a : Written) (done : List Output) (st : State) → IsColumn a rowid_name
    → nat_lt 1 st.budget ≡ true → slice_get s.tables m ≡ Some t → column_named t rowid_name ≡ None → t.key ≡ None → nat_le (2 ^ 31) t.tree ≡ false
    → shown lower (within (outermost s) (level_at table m) true) (level_at table m).tables done a st ≡ Ok (done ++ rowid_output ∷ [], after_rowid st)
rowid_shown s table m t a done st is paid has none no_key stored =
    let cx = within (outermost s) (level_at table m) true in
    let found = find_rowid s table m 1 t [] [] true true has none (low_is t.tree stored) in
    shown_is lower cx (level_at table m).tables done a is.e rowid_name is.text rowid_name (col 1 0) st (after_rowid st) is.one is.expr
    (lower_rowid 699 cx is.e 1 m st is.expr paid found) (rowid_heading cx is.e is.text 1 m t is.expr found has no_key)

-- the same for a table that may have a key: the rowid is headed by its name
abbrev pub rowid_named : Table → Name
rowid_named t = unwrap_or (option_and_then (λ k. option_map (λ (c : Column'). c.name) (slice_get t.columns k)) t.key) rowid_name

any_heading : (cx : Context) (e : Expr) (text : Name) (slot m : ℕ) (t : Table) → out-Expr e ≡ Expr-F.Column None rowid_name
    → find cx None rowid_name ≡ Ok (Rowid slot m) → slice_get cx.schema.tables m ≡ Some t → heading cx e text ≡ rowid_named t
unfolding heading declared
any_heading cx e text slot m t is found has = rw (is, found, has) refl

abbrev pub any_rowid_output : Table → Output
any_rowid_output t = record { name = rowid_named t; is_alias = false; is_column = true; term = col 1 0; carried = nothing }

pub any_rowid_shown : (s : Schema) (table : Name) (m : ℕ) (t : Table) (a : Written) (done : List Output) (st : State) → IsColumn a rowid_name
    → nat_lt 1 st.budget ≡ true → slice_get s.tables m ≡ Some t → column_named t rowid_name ≡ None → nat_le (2 ^ 31) t.tree ≡ false
    → shown lower (within (outermost s) (level_at table m) true) (level_at table m).tables done a st ≡ Ok (done ++ any_rowid_output t ∷ [], after_rowid st)
any_rowid_shown s table m t a done st is paid has none stored =
    let cx = within (outermost s) (level_at table m) true in
    let found = find_rowid s table m 1 t [] [] true true has none (low_is t.tree stored) in
    shown_is lower cx (level_at table m).tables done a is.e rowid_name is.text (rowid_named t) (col 1 0) st (after_rowid st) is.one is.expr
    (lower_rowid 699 cx is.e 1 m st is.expr paid found) (any_heading cx is.e is.text 1 m t is.expr found has)

-- ---- more columns

module _ (low : Context → Expr → State → Checked (Term × State)) (cx : Context) (level : Level) (core : Core) where
  abbrev shows : List Output → Written → State → Checked (List Output × State)
  shows done a st = shown low (within cx level true) level.tables done a st

  pub result_four : (a b c d : Written) (w x y z : List Output) (st s1 s2 s3 s4 : State) → (out-Core core).shown ≡ a ∷ b ∷ c ∷ d ∷ []
      → shows [] a st ≡ Ok (w, s1) → shows w b s1 ≡ Ok (x, s2) → shows x c s2 ≡ Ok (y, s3)
      → shows y d s3 ≡ Ok (z, s4) → result low cx level core st ≡ Ok (z, s4)
  unfolding result outputs
  result_four a b c d w x y z st s1 s2 s3 s4 is h i j k = rw (is, h, i, j, k) refl

  pub result_five : (a b c d e : Written) (v w x y z : List Output) (st s1 s2 s3 s4 s5 : State) → (out-Core core).shown ≡ a ∷ b ∷ c ∷ d ∷ e ∷ []
      → shows [] a st ≡ Ok (v, s1) → shows v b s1 ≡ Ok (w, s2) → shows w c s2 ≡ Ok (x, s3)
      → shows x d s3 ≡ Ok (y, s4) → shows y e s4 ≡ Ok (z, s5) → result low cx level core st ≡ Ok (z, s5)
  unfolding result outputs
  result_five a b c d e v w x y z st s1 s2 s3 s4 s5 is h i j k l = rw (is, h, i, j, k, l) refl

  pub result_six : (a b c d e f : Written) (u v w x y z : List Output) (st s1 s2 s3 s4 s5 s6 : State) → (out-Core core).shown ≡ a ∷ b ∷ c ∷ d ∷ e ∷ f ∷ []
      → shows [] a st ≡ Ok (u, s1) → shows u b s1 ≡ Ok (v, s2) → shows v c s2 ≡ Ok (w, s3) → shows w d s3 ≡ Ok (x, s4)
      → shows x e s4 ≡ Ok (y, s5) → shows y f s5 ≡ Ok (z, s6) → result low cx level core st ≡ Ok (z, s6)
  unfolding result outputs
  result_six a b c d e f u v w x y z st s1 s2 s3 s4 s5 s6 is h i j k l m = rw (is, h, i, j, k, l, m) refl
