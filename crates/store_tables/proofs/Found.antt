-- The SELECT of a text among the messages, for any schema that finds the messages by name.
use Rattle.std.proofs.Common.{arith, ne_eqb, suc, None, true, false, pos, ◌≡◌, ◌==◌, ◌^◌, nat_le, nat_lt, List}
use Rattle.std.proofs.Common.{[], ◌∷◌, ◌-◌, ℕ, Ok, Bool, not, codes, refl, map, length, sym, ap, subst, ◌∙◌, inl}
use Rattle.std.specs.List.{list_all, list_any}
use Rattle.sqlite.specs.declared.types.Value.TheVariants.{Null, Int, Text}
use Rattle.sqlite.specs.Order.{Row}
use Rattle.sqlite.specs.Term.{Env, lit, col, op2, holds}
use Rattle.sqlite.specs.Query.{Query, IsAnswer, Output, output, inner, end}
use Rattle.sqlite.specs.Program.{overlay}
use Rattle.sqlite.specs.Tree.{Trees}
use Rattle.sqlite.specs.Collation.TheVariants.{Binary}
use Rattle.sqlite.specs.Schema.{Schema}
use Rattle.sqlite.specs.State.{State as Store, Shown}
use Rattle.sqlite.specs.Command.TheVariants as command
use Rattle.sqlite.specs.Listing.{understood}
use Rattle.sqlite.proofs.Callers.{reads_as}
use Rattle.sqlite_tied.specs.Compute.{everything}
use Rattle.sqlite_sql.specs.declared.ops.BinaryOp.TheVariants.{Compare}
use Rattle.sqlite_sql.specs.declared.ops.CompareOp.TheVariants.{Eq}
use Rattle.sqlite_schema.specs.Names.{same_name}
use Rattle.sqlite_schema.specs.declared.schema.Kind.TheVariants as kind
use Rattle.sqlite_resolve.specs.Compile.{compiled}
use Rattle.sqlite_resolve.specs.declared.compiled.Compiled.{Compiled}
use Rattle.sqlite_resolve.specs.Lowering.{chosen, first_found}
use Rattle.sqlite_resolve.specs.declared.state.State.{State}
use Rattle.sqlite_resolve.specs.declared.state.Passes.TheVariants.{Nothing}
use Rattle.sqlite_resolve.specs.declared.scope.Output.{Output as Shown'}
use Rattle.sqlite_resolve.specs.Select.{outermost}
use Rattle.sqlite_resolve.specs.Compare.{compared, affinity_of, of_column, converted, spelled, may_be_text, is_parameter}
use Rattle.sqlite_resolve.specs.Expr.{lower, lower_to, passes}
use Rattle.sqlite_resolve.specs.Program.{program}
use Rattle.sqlite_ast.specs.declared.Expr.{Expr, out-Expr}
use Rattle.sqlite_ast.specs.declared.Expr.TheOpen.{Expr-F}
use Rattle.sqlite_ast.specs.declared.Binary.TheVariants as binary
use Rattle.sqlite_ast.specs.declared.Shown.{Shown as Written}
use Rattle.sqlite_ast.specs.declared.Select.{out-Select}
use Rattle.sqlite_ast.specs.declared.Core.{out-Core}
use Rattle.sqlite_rules.specs.Lists.{Has}
use Rattle.sqlite_rules.proofs.ListLemmas.{some_from, some_has}
use Rattle.sqlite_rules.proofs.ProbeLemmas.{has_mapped, mapped_has}
use Rattle.std.proofs.lemmas.List.Sorted.{IsPermutation-sym}
use Rattle.store_tables.specs.DeskTables.{column_of, messages_at}
use Rattle.store_tables.specs.Stored.{Finds}
use Rattle.store_tables.proofs.Layers.{find_one, lower_column, result_one, understood_is}
use Rattle.store_tables.proofs.Exists.{lower_node, opened_equal, opened_parameter, tests_some, opening}
use Rattle.store_tables.proofs.LookupLemmas.{hit_is, missing_test}
use Rattle.store_tables.proofs.NameLemmas.{has_permuted, has_picked, picked, picked_has}
use Rattle.store_tables.proofs.QueriesOf.{Means, means, IsColumn, column_shown, shown_column, after_column}
use Rattle.store_tables.proofs.Selects.{begun, level_at}
use Rattle.store_tables.proofs.TextSets.{has_text, same_test}
use Rattle.store_tables.proofs.Where.{IsFiltered, IsLowered, draft_where, filtered_compiled, scope_of}

abbrev pub text_select : List ℕ
text_select = codes "SELECT body FROM messages WHERE body = ?1"

-- ---- what it means

-- an expression that parses as `body = ?1`
record IsByBody (e : Expr) : Type 0 where
  pub a : Expr
  pub b : Expr
  pub equals : out-Expr e ≡ Expr-F.Binary binary.Eq a b
  pub column : out-Expr a ≡ Expr-F.Column None (codes "body")
  pub parameter : out-Expr b ≡ Expr-F.Parameter 1
  pub e_hands : passes e ≡ Nothing
  pub b_hands : passes b ≡ Nothing

parts : (it : IsFiltered text_select (codes "messages")) × (a : Written)
    × ((out-Core (out-Select it.sel).first).shown ≡ a ∷ []) × IsColumn a (codes "body") × IsByBody it.e
    × (it.p.tail ≡ length text_select) × (length it.p.names ≡ 1)
unfolding everything
parts = (
  record {
    p = _;
    sel = _;
    src = _;
    e = _;
    parsed = refl;
    statement = refl;
    formats = refl;
    alone = record { with' = refl; others = refl; order = refl; limit = refl; offset = refl };
    from = refl;
    origin = refl;
    alias = refl;
    none = refl;
    on = refl;
    left = refl;
    distinct = refl;
    filter = refl;
    group = refl;
    having = refl;
  },
  _,
  refl,
  record { e = _; text = _; one = refl; expr = refl },
  record { a = _; b = _; equals = refl; column = refl; parameter = refl; e_hands = refl; b_hands = refl },
  refl,
  refl,
)

abbrev pub looking : ℕ → Query
looking tree = record {
  from = inner tree end;
  filter = missing_test;
  group = None;
  project = col 1 1 ∷ [];
  distinct = false;
  collations = [];
  order = [];
  limit = lit (Int (Rattle.std.proofs.Common.negsuc 0));
  offset = lit (Int (pos 0));
}

module _ (s : Schema) (at tree : ℕ) (found : Finds s (codes "messages") at (messages_at tree)) where
  same_term : (shown : List Shown')
      → compared (scope_of s (codes "messages") at shown) (Compare Eq Binary) (col 1 1) (col 0 0) ≡ op2 (Compare Eq Binary) (col 1 1) (col 0 0)
  unfolding compared affinity_of of_column converted spelled may_be_text is_parameter
  same_term shown = rw found.has refl

  body_lowered : (shown : List Shown') (e : Expr) → IsByBody e → (st : State) → nat_lt 1 st.budget ≡ true → nat_lt 1 (st.budget - 1) ≡ true
      → nat_lt 1 (st.budget - 1 - 1) ≡ true → IsLowered (scope_of s (codes "messages") at shown) e missing_test st
  unfolding same_name chosen first_found
  body_lowered shown e it st rich0 rich1 rich2 =
      let t = messages_at tree in
      let cx = scope_of s (codes "messages") at shown in
      let column = lower_column 698 cx it.a (codes "body") 1 at 0 t (column_of (codes "body") kind.Text true) (opening st) it.column rich1
      (find_one s (codes "messages") (codes "body") at 1 0 t [] shown false true found.has refl) found.has refl in
      let parameter = lower_node 698 cx it.b Nothing (col 0 0) _ _ rich2 it.b_hands (opened_parameter (lower_to 698) cx it.b 1 _ it.parameter) in
      let equal = lower_node 699 cx e Nothing _ st _ rich0 it.e_hands
      (opened_equal (lower_to 699) cx e it.a it.b (col 1 1) (col 0 0) (opening st) _ _ it.equals column parameter) in
      record {
        after = _;
        tests_is = tests_some lower cx e (op2 (Compare Eq Binary) (col 1 1) (col 0 0)) st _ (rw (same_term shown) at equal);
        steps = refl;
        aggregates = refl;
      }

  typed : program s [] (draft_where tree missing_test (col 1 1 ∷ [])) ≡ Ok (record { lets = []; body = looking tree })
  unfolding program
  typed = rw (found.stored, found.by_tree) refl

  text_compiled : compiled s text_select ≡ Ok (record {
    command = command.Select (record { lets = []; body = looking tree }) (codes "body" ∷ []);
    returning = None;
    names = parts.0.p.names;
    formats = [];
    start = parts.0.p.start;
    end = parts.0.p.end;
    tail = parts.0.p.tail;
  })
  unfolding same_name
  text_compiled =
      let it = parts.0 in
      let t = messages_at tree in
      let c = column_of (codes "body") kind.Text true in
      let core = (out-Select it.sel).first in
      let one = column_shown s (codes "messages") (codes "body") at 0 t c parts.1 [] begun parts.3 refl found.has refl refl in
      let st = after_column t 0 c begun in
      let columns = shown_column t 0 c ∷ [] in
      filtered_compiled s text_select (codes "messages") it at t columns missing_test st _ found.named found.has (result_one lower (outermost s)
      (level_at (codes "messages") at) core parts.1 columns begun st parts.2 one) refl refl (body_lowered columns it.e parts.4 st refl refl refl) typed

  pub text_selects : Means s text_select (command.Select (record { lets = []; body = looking tree }) (codes "body" ∷ []))
  text_selects = means s text_select _ text_compiled refl refl

  -- it is one statement, with one parameter
  pub text_understood : (c : Compiled) × (understood s text_select ≡ Ok c) × (c.tail ≡ length text_select) × (length c.names ≡ 1) × (c.formats ≡ [])
  text_understood = (_, (understood_is s text_select _ text_compiled).0, parts.5, parts.6, refl)

-- ---- what it shows

module _ (text : List ℕ) (tree : ℕ) (old : Trees) (low : nat_le (2 ^ 31) tree ≡ false) (rows : List Row)
    (a : IsAnswer (looking tree) (overlay old []) (Text text ∷ []) rows) where
  abbrev env : Row → Env
  env r = (Text text ∷ []) ∷ r ∷ []

  abbrev is_found : Row → Bool
  is_found r = list_all (holds (env r)) missing_test

  overlay_none : overlay old [] tree ≡ old tree
  overlay_none = rw low refl

  kept_is : a.kept ≡ map (output (looking tree)) (picked is_found env (old tree))
  kept_is = a.distinct ∙ ap (map (output (looking tree))) (a.grouped ∙ ap (picked is_found env) overlay_none)

  some : (rs : List Row) → not (length rs == 0) ≡ true → (x : Row) × Has rs x
  some [] h = absurd cc
  some (r ∷ rs) h = (r, inl refl)

  none_empty : (rs : List Row) (x : Row) → Has rs x → not (length rs == 0) ≡ true
  none_empty [] x there = absurd there
  none_empty (r ∷ rs) x there = ap not (ne_eqb (suc (length rs)) 0 (λ e. omega (arith, e)))

  there : not (length rows == 0) ≡ true → list_any (has_text text) (old tree) ≡ true
  there h =
      let x = some rows h in
      let o = has_mapped (λ (k : Output). k.1) a.ordered x.0 (subst (λ l. Has l x.0) a.shown x.1) in
      let e = has_mapped (output (looking tree)) (picked is_found env (old tree)) o.0
      (subst (λ l. Has l o.0) kept_is (has_permuted a.ordered a.kept o.0 (IsPermutation-sym _ _ a.same) o.1)) in
      let r = has_picked is_found env (old tree) e.0 e.1 in
      some_from (has_text text) (old tree) r.0 r.1 (sym (hit_is text r.0) ∙ r.2)

  back : list_any (has_text text) (old tree) ≡ true → not (length rows == 0) ≡ true
  back h =
      let r = some_has (has_text text) (old tree) h in
      let o = output (looking tree) (env r.0) in
      let found = picked_has is_found env (old tree) r.0 r.1 (hit_is text r.0 ∙ r.2) in
      let kept = subst (λ l. Has l o) (sym kept_is) (mapped_has (output (looking tree)) (picked is_found env (old tree)) (env r.0) found) in
      none_empty rows o.1 (subst (λ l. Has l o.1) (sym a.shown) (mapped_has (λ (k : Output). k.1) a.ordered o (has_permuted a.kept a.ordered o a.same kept)))

  told_is : not (length rows == 0) ≡ list_any (has_text text) (old tree)
  told_is = same_test _ _ there back

pub text_told : (text : List ℕ) (at tree : ℕ) (old new : Store) (rows : List Row) → Finds old.now.schema (codes "messages") at (messages_at tree)
    → Shown text_select (Text text ∷ []) old new rows → not (length rows == 0) ≡ list_any (has_text text) (old.now.trees tree)
text_told text at tree old new rows found shown =
    let s = old.now.schema in
    let means = text_selects s at tree found in
    told_is text tree old.now.trees found.stored rows
    ((reads_as text_select (Text text ∷ []) old new s refl _ means.command means.plain means.unlisted rows shown).answer Null)
