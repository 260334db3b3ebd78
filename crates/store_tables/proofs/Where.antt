-- The test `asker = ?1 AND no = ?2`, and the DELETE and the SELECT that have it, for any schema that finds the table by its name.
use Rattle.std.proofs.Common.{None, Some, true, false, pos, negsuc, slice_get, ◌≡◌, List, [], ◌∷◌, ◌++◌, suc, ◌-◌, nat_lt, ℕ, Ok, codes, refl, map, ◌∙◌}
use Rattle.sqlite.specs.declared.types.Value.TheVariants.{Int}
use Rattle.sqlite.specs.Term.{Term, lit, col, op2}
use Rattle.sqlite.specs.Query.{Query, inner, end}
use Rattle.sqlite.specs.Collation.TheVariants.{Binary}
use Rattle.sqlite.specs.Schema.{Schema}
use Rattle.sqlite.specs.Table.{Table}
use Rattle.sqlite.specs.Command.TheVariants as command
use Rattle.sqlite_tied.specs.Compute.{everything}
use Rattle.sqlite_sql.specs.declared.ops.BinaryOp.TheVariants.{Compare, And}
use Rattle.sqlite_sql.specs.declared.ops.CompareOp.TheVariants.{Eq}
use Rattle.sqlite_schema.specs.Names.{same_name, table_named}
use Rattle.sqlite_schema.specs.declared.schema.Kind.TheVariants as kind
use Rattle.sqlite_schema.specs.declared.program.Program.{Program}
use Rattle.sqlite_schema.specs.declared.command.Command.{Command}
use Rattle.sqlite_draft.specs.declared.query.Draft.{Draft}
use Rattle.sqlite_draft.specs.declared.join.Step.TheVariants.{Inner}
use Rattle.sqlite_draft.specs.Join.{chain}
use Rattle.sqlite_resolve.specs.Lowering.{fresh, max_budget, chosen, first_found}
use Rattle.sqlite_resolve.specs.Compile.{compiled, first, command as command_in, returning, timed, delete, shows}
use Rattle.sqlite_resolve.specs.Write.{deleted, picked}
use Rattle.sqlite_resolve.specs.declared.state.State.{State}
use Rattle.sqlite_resolve.specs.declared.state.Passes.TheVariants.{Nothing}
use Rattle.sqlite_resolve.specs.declared.select.Clauses.{Clauses}
use Rattle.sqlite_resolve.specs.declared.scope.Output.{Output}
use Rattle.sqlite_resolve.specs.Scope.{Name, Context}
use Rattle.sqlite_resolve.specs.Select.{assembled, ungrouped, outermost}
use Rattle.sqlite_resolve.specs.Compare.{compared, affinity_of, of_column, converted, spelled, may_be_text, is_parameter}
use Rattle.sqlite_resolve.specs.Expr.{lower, lower_to, opened, passes, operation, both, wanted_truth, tests_truth, tests_alias, combine}
use Rattle.sqlite_resolve.specs.Body.{result, tests}
use Rattle.sqlite_resolve.specs.Program.{program}
use Rattle.sqlite_syntax.specs.declared.statement.Parsed.{Parsed}
use Rattle.sqlite_ast.specs.declared.Expr.{Expr, out-Expr}
use Rattle.sqlite_ast.specs.declared.Expr.TheOpen.{Expr-F}
use Rattle.sqlite_ast.specs.declared.Binary.TheVariants as binary
use Rattle.sqlite_ast.specs.declared.Shown.{Shown as Written}
use Rattle.sqlite_ast.specs.declared.Statement.TheVariants as written
use Rattle.sqlite_ast.specs.declared.Select.{Select, out-Select}
use Rattle.sqlite_ast.specs.declared.Core.{out-Core}
use Rattle.sqlite_ast.specs.declared.Source.{Source, out-Source}
use Rattle.sqlite_ast.specs.declared.Origin.TheVariants as origin
use Rattle.store_tables.specs.DeskTables.{column_of, desk_at, names_at, parked_at}
use Rattle.store_tables.specs.Stored.{Finds}
use Rattle.store_tables.proofs.Layers.{compiled_is, read_is, named_is, body_is, whole_page, IsAlone, query_one}
use Rattle.store_tables.proofs.Layers.{parts_is, bounds_one, matching_one, find_one, lower_column, result_one}
use Rattle.store_tables.proofs.Exists.{Low, lower_node, opened_equal, opened_parameter, tests_some, opening}
use Rattle.store_tables.proofs.Selects.{begun, level_at}
use Rattle.store_tables.proofs.QueriesOf.{Means, means, IsColumn, column_shown, shown_column, after_column}

-- ---- the test

-- the two columns have the values of the parameters
abbrev pub by_name : ℕ → ℕ → List Term
by_name p q = op2 (Compare Eq Binary) (col 1 p) (col 0 0) ∷ op2 (Compare Eq Binary) (col 1 q) (col 0 1) ∷ []

-- an expression that parses as the test
pub record IsByName (e : Expr) : Type 0 where
  pub l : Expr
  pub r : Expr
  pub la : Expr
  pub lb : Expr
  pub ra : Expr
  pub rb : Expr
  pub both' : out-Expr e ≡ Expr-F.Binary binary.And l r
  pub left : out-Expr l ≡ Expr-F.Binary binary.Eq la lb
  pub right : out-Expr r ≡ Expr-F.Binary binary.Eq ra rb
  pub asker : out-Expr la ≡ Expr-F.Column None (codes "asker")
  pub number : out-Expr ra ≡ Expr-F.Column None (codes "no")
  pub first' : out-Expr lb ≡ Expr-F.Parameter 1
  pub second : out-Expr rb ≡ Expr-F.Parameter 2
  pub e_hands : passes e ≡ Nothing
  pub l_hands : passes l ≡ Nothing
  pub r_hands : passes r ≡ Nothing
  pub lb_hands : passes lb ≡ Nothing
  pub rb_hands : passes rb ≡ Nothing

-- there is budget for seven expressions
pub record IsRich (b : ℕ) : Type 0 where
  pub b0 : nat_lt 1 b ≡ true
  pub b1 : nat_lt 1 (b - 1) ≡ true
  pub b2 : nat_lt 1 (b - 1 - 1) ≡ true
  pub b3 : nat_lt 1 (b - 1 - 1 - 1) ≡ true
  pub b4 : nat_lt 1 (b - 1 - 1 - 1 - 1) ≡ true
  pub b5 : nat_lt 1 (b - 1 - 1 - 1 - 1 - 1) ≡ true
  pub b6 : nat_lt 1 (b - 1 - 1 - 1 - 1 - 1 - 1) ≡ true

opened_and : (low : Low) (cx : Context) (e a b : Expr) (x y : Term) (st s1 s2 : State) → out-Expr e ≡ Expr-F.Binary binary.And a b
    → low cx a st ≡ Ok (x, s1) → low cx b s1 ≡ Ok (y, s2) → opened low cx e st ≡ Ok (op2 And x y, s2)
unfolding opened operation both wanted_truth tests_truth tests_alias combine
opened_and low cx e a b x y st s1 s2 is h k = rw (is, h, k) refl

-- where only this table is in scope
abbrev pub scope_of : Schema → Name → ℕ → List Output → Context
scope_of s name at shown = record {
  schema = s;
  levels = record { tables = record { name = name; table = at; slot = 1; shared = [] } ∷ []; shown = shown } ∷ [];
  may_aggregate = false;
  may_alias = true;
}

-- what the test is lowered to
pub record IsLowered (cx : Context) (e : Expr) (filter : List Term) (st : State) : Type 0 where
  pub after : State
  pub tests_is : tests lower cx [] (Some e) st ≡ Ok (filter, after)
  pub steps : after.steps ≡ st.steps
  pub aggregates : after.aggregates ≡ st.aggregates

module _ (s : Schema) (at tree : ℕ) (found : Finds s (codes "names") at (names_at tree)) (shown : List Output) where
  names_asker : compared (scope_of s (codes "names") at shown) (Compare Eq Binary) (col 1 1) (col 0 0) ≡ op2 (Compare Eq Binary) (col 1 1) (col 0 0)
  unfolding compared affinity_of of_column converted spelled may_be_text is_parameter
  names_asker = rw found.has refl

  names_number : compared (scope_of s (codes "names") at shown) (Compare Eq Binary) (col 1 2) (col 0 1) ≡ op2 (Compare Eq Binary) (col 1 2) (col 0 1)
  unfolding compared affinity_of of_column converted spelled may_be_text is_parameter
  names_number = rw found.has refl

  pub names_lowered : (e : Expr) → IsByName e → (st : State) → IsRich st.budget → IsLowered (scope_of s (codes "names") at shown) e (by_name 1 2) st
  unfolding same_name chosen first_found
  names_lowered e it st rich =
      let t = names_at tree in
      let cx = scope_of s (codes "names") at shown in
      let st0 = opening (opening st) in
      let column = lower_column 697 cx it.la (codes "asker") 1 at 0 t (column_of (codes "asker") kind.Text true) st0 it.asker rich.b2
      (find_one s (codes "names") (codes "asker") at 1 0 t [] shown false true found.has refl) found.has refl in
      let parameter = lower_node 697 cx it.lb Nothing (col 0 0) _ _ rich.b3 it.lb_hands (opened_parameter (lower_to 697) cx it.lb 1 _ it.first') in
      let equal = opened_equal (lower_to 698) cx it.l it.la it.lb (col 1 1) (col 0 0) st0 _ _ it.left column parameter in
      let one = lower_node 698 cx it.l Nothing _ (opening st) _ rich.b1 it.l_hands equal in
      let column' = lower_column 697 cx it.ra (codes "no") 1 at 1 t (column_of (codes "no") kind.Integer true) _ it.number rich.b5
      (find_one s (codes "names") (codes "no") at 1 1 t [] shown false true found.has refl) found.has refl in
      let parameter' = lower_node 697 cx it.rb Nothing (col 0 1) _ _ rich.b6 it.rb_hands (opened_parameter (lower_to 697) cx it.rb 2 _ it.second) in
      let equal' = opened_equal (lower_to 698) cx it.r it.ra it.rb (col 1 2) (col 0 1) _ _ _ it.right column' parameter' in
      let two = lower_node 698 cx it.r Nothing _ _ _ rich.b4 it.r_hands equal' in
      let all = lower_node 699 cx e Nothing _ st _ rich.b0 it.e_hands (opened_and (lower_to 699) cx e it.l it.r _ _ (opening st) _ _ it.both' one two) in
      record {
        after = _;
        tests_is = tests_some lower cx e (op2 And (op2 (Compare Eq Binary) (col 1 1) (col 0 0)) (op2 (Compare Eq Binary) (col 1 2) (col 0 1))) st _
            (rw (names_asker, names_number) at all);
        steps = refl;
        aggregates = refl;
      }

module _ (s : Schema) (at tree : ℕ) (found : Finds s (codes "parked") at (parked_at tree)) (shown : List Output) where
  parked_asker : compared (scope_of s (codes "parked") at shown) (Compare Eq Binary) (col 1 2) (col 0 0) ≡ op2 (Compare Eq Binary) (col 1 2) (col 0 0)
  unfolding compared affinity_of of_column converted spelled may_be_text is_parameter
  parked_asker = rw found.has refl

  parked_number : compared (scope_of s (codes "parked") at shown) (Compare Eq Binary) (col 1 3) (col 0 1) ≡ op2 (Compare Eq Binary) (col 1 3) (col 0 1)
  unfolding compared affinity_of of_column converted spelled may_be_text is_parameter
  parked_number = rw found.has refl

  pub parked_lowered : (e : Expr) → IsByName e → (st : State) → IsRich st.budget → IsLowered (scope_of s (codes "parked") at shown) e (by_name 2 3) st
  unfolding same_name chosen first_found
  parked_lowered e it st rich =
      let t = parked_at tree in
      let cx = scope_of s (codes "parked") at shown in
      let st0 = opening (opening st) in
      let column = lower_column 697 cx it.la (codes "asker") 1 at 1 t (column_of (codes "asker") kind.Text true) st0 it.asker rich.b2
      (find_one s (codes "parked") (codes "asker") at 1 1 t [] shown false true found.has refl) found.has refl in
      let parameter = lower_node 697 cx it.lb Nothing (col 0 0) _ _ rich.b3 it.lb_hands (opened_parameter (lower_to 697) cx it.lb 1 _ it.first') in
      let equal = opened_equal (lower_to 698) cx it.l it.la it.lb (col 1 2) (col 0 0) st0 _ _ it.left column parameter in
      let one = lower_node 698 cx it.l Nothing _ (opening st) _ rich.b1 it.l_hands equal in
      let column' = lower_column 697 cx it.ra (codes "no") 1 at 2 t (column_of (codes "no") kind.Integer true) _ it.number rich.b5
      (find_one s (codes "parked") (codes "no") at 1 2 t [] shown false true found.has refl) found.has refl in
      let parameter' = lower_node 697 cx it.rb Nothing (col 0 1) _ _ rich.b6 it.rb_hands (opened_parameter (lower_to 697) cx it.rb 2 _ it.second) in
      let equal' = opened_equal (lower_to 698) cx it.r it.ra it.rb (col 1 3) (col 0 1) _ _ _ it.right column' parameter' in
      let two = lower_node 698 cx it.r Nothing _ _ _ rich.b4 it.r_hands equal' in
      let all = lower_node 699 cx e Nothing _ st _ rich.b0 it.e_hands (opened_and (lower_to 699) cx e it.l it.r _ _ (opening st) _ _ it.both' one two) in
      record {
        after = _;
        tests_is = tests_some lower cx e (op2 And (op2 (Compare Eq Binary) (col 1 2) (col 0 0)) (op2 (Compare Eq Binary) (col 1 3) (col 0 1))) st _
            (rw (parked_asker, parked_number) at all);
        steps = refl;
        aggregates = refl;
      }

-- ---- the DELETE

-- a text that parses as a DELETE by the name, with no RETURNING
pub record IsDelete (text : List ℕ) (table : Name) : Type 0 where
  pub p : Parsed
  pub e : Expr
  pub parsed : first text ≡ Ok p
  pub statement : p.statement ≡ written.Delete table (Some e) []
  pub formats : p.formats ≡ []
  pub test : IsByName e

module _ (s : Schema) (text : List ℕ) (table : Name) (it : IsDelete text table) where
  untimed_delete : timed s it.p.formats it.p.statement ≡ []
  unfolding timed
  untimed_delete = rw (it.statement, it.formats) refl

  plain_delete : (base : ℕ) → returning s base it.p.statement ≡ Ok None
  unfolding returning shows
  plain_delete base = rw it.statement refl

  command_delete : (base at : ℕ) (t : Table) (d : Draft) (prog : Program) → table_named s table ≡ Some at → slice_get s.tables at ≡ Some t
      → deleted s at t (Some it.e) ≡ Ok d → program s [] d ≡ Ok prog → command_in s it.p.formats base it.p.statement ≡ Ok (command.Delete at prog)
  unfolding command_in delete
  command_delete base at t d prog named has is typed = rw (it.statement, named, has, is, typed) refl

-- what a query over one table reads, where the test holds
abbrev pub draft_where : ℕ → List Term → List Term → Draft
draft_where tree filter project = record {
  from = chain (Inner tree ∷ []);
  filter = filter;
  group = None;
  project = project;
  distinct = false;
  collations = [];
  order = [];
  limit = lit (Int (negsuc 0));
  offset = lit (Int (pos 0));
}

deleted_is : (s : Schema) (at : ℕ) (t : Table) (e : Expr) (filter : List Term)
    → IsLowered (scope_of s t.name at []) e filter (fresh 2 max_budget) → deleted s at t (Some e) ≡ Ok (draft_where t.tree filter (col 1 0 ∷ []))
unfolding deleted picked
deleted_is s at t e filter it = rw (it.tests_is, it.steps) refl

-- the query by the name that shows these terms
abbrev pub reading : ℕ → ℕ → List Term → Query
reading tree at project = record {
  from = inner tree end;
  filter = by_name (suc at) (suc (suc at));
  group = None;
  project = project;
  distinct = false;
  collations = [];
  order = [];
  limit = lit (Int (negsuc 0));
  offset = lit (Int (pos 0));
}

-- ---- the SELECT

-- a text that parses as SELECT .. FROM one table by the name, with no more
pub record IsFiltered (text : List ℕ) (table : Name) : Type 0 where
  pub p : Parsed
  pub sel : Select
  pub src : Source
  pub e : Expr
  pub parsed : first text ≡ Ok p
  pub statement : p.statement ≡ written.Select sel
  pub formats : p.formats ≡ []
  pub alone : IsAlone sel
  pub from : (out-Core (out-Select sel).first).from ≡ src ∷ []
  pub origin : (out-Source src).origin ≡ origin.Table table
  pub alias : (out-Source src).alias ≡ None
  pub none : (out-Source src).using ≡ []
  pub on : (out-Source src).on ≡ None
  pub left : (out-Source src).is_left ≡ false
  pub distinct : (out-Core (out-Select sel).first).distinct ≡ false
  pub filter : (out-Core (out-Select sel).first).filter ≡ Some e
  pub group : (out-Core (out-Select sel).first).group ≡ []
  pub having : (out-Core (out-Select sel).first).having ≡ None

assembled_where : (limit offset : Term) (c : Clauses) (st : State) → c.is_grouped ≡ false → st.steps ≡ [] → c.order ≡ []
    → assembled false limit offset c st ≡ Ok (record {
      from = chain (c.body.steps ++ []);
      filter = c.body.filter;
      group = None;
      project = map (λ (o : Output). o.term) c.body.level.shown;
      distinct = false;
      collations = [];
      order = [];
      limit = limit;
      offset = offset;
    })
unfolding assembled ungrouped
assembled_where limit offset c st plain no_steps no_order = rw (plain, no_steps, no_order) refl

untimed_select : (s : Schema) (p : Parsed) (sel : Select) → p.statement ≡ written.Select sel → p.formats ≡ [] → timed s p.formats p.statement ≡ []
unfolding timed
untimed_select s p sel is none = rw (is, none) refl

plain_select : (s : Schema) (p : Parsed) (sel : Select) (base : ℕ) → p.statement ≡ written.Select sel → returning s base p.statement ≡ Ok None
unfolding returning
plain_select s p sel base is = rw is refl

command_select : (s : Schema) (p : Parsed) (sel : Select) (base : ℕ) (c : Command) → p.statement ≡ written.Select sel
    → Rattle.sqlite_resolve.specs.Compile.read s sel ≡ Ok c → command_in s p.formats base p.statement ≡ Ok c
unfolding command_in
command_select s p sel base c is h = rw (is, h) refl

pub filtered_compiled : (s : Schema) (text : List ℕ) (table : Name) (it : IsFiltered text table) (m : ℕ) (t : Table) (columns : List Output)
    (filter : List Term) (st : State) (prog : Program) → table_named s table ≡ Some m → slice_get s.tables m ≡ Some t
    → result lower (outermost s) (level_at table m) (out-Select it.sel).first begun ≡ Ok (columns, st) → st.aggregates ≡ [] → st.steps ≡ []
    → IsLowered (scope_of s table m columns) it.e filter st → program s [] (draft_where t.tree filter (map (λ (o : Output). o.term) columns)) ≡ Ok prog
    → compiled s text ≡ Ok (record {
      command = command.Select prog (map (λ (o : Output). o.name) columns);
      returning = None;
      names = it.p.names;
      formats = [];
      start = it.p.start;
      end = it.p.end;
      tail = it.p.tail;
    })
filtered_compiled s text table it m t columns filter st prog named has shows no_sums no_steps lowered typed =
    let core = (out-Select it.sel).first in
    let last = lowered.after in
    let bound = bounds_one s it.src table m (fresh 1 max_budget) it.origin it.alias it.none named refl in
    let matched = matching_one lower (outermost s) core it.src table m 1 columns t
    (Some it.e) filter st last it.from it.on it.none it.left has it.filter lowered.tests_is in
    let bodied = body_is lower (outermost s) core (fresh 1 max_budget) begun st last _ columns _ (rw it.from bound) shows matched in
    let parted = parts_is s core _ (fresh 1 max_budget) last bodied (lowered.aggregates ∙ no_sums) it.group it.having in
    let shown = named_is s core whole_page _ last (draft_where t.tree filter (map (λ (o : Output). o.term) columns)) parted
    (rw it.distinct (assembled_where _ _ _ last refl (lowered.steps ∙ no_steps) refl)) in
    let queried = query_one s it.sel it.src table _ it.alone it.from it.origin shown in
    let reads = read_is s it.sel _ _ _ [] prog queried typed in
    compiled_is s text it.p _ it.parsed (untimed_select s it.p it.sel it.statement it.formats)
    (plain_select s it.p it.sel _ it.statement) (command_select s it.p it.sel _ _ it.statement reads)

pub filtered_is : (s : Schema) (text : List ℕ) (table : Name) (it : IsFiltered text table) (m : ℕ) (t : Table) (columns : List Output)
    (filter : List Term) (st : State) (prog : Program) → table_named s table ≡ Some m → slice_get s.tables m ≡ Some t
    → result lower (outermost s) (level_at table m) (out-Select it.sel).first begun ≡ Ok (columns, st) → st.aggregates ≡ [] → st.steps ≡ []
    → IsLowered (scope_of s table m columns) it.e filter st → program s [] (draft_where t.tree filter (map (λ (o : Output). o.term) columns)) ≡ Ok prog
    → Means s text (command.Select prog (map (λ (o : Output). o.name) columns))
filtered_is s text table it m t columns filter st prog named has shows no_sums no_steps lowered typed =
    means s text _ (filtered_compiled s text table it m t columns filter st prog named has shows no_sums no_steps lowered typed) refl refl

-- ---- the texts

abbrev pub names_delete : List ℕ
names_delete = codes "DELETE FROM names WHERE asker = ?1 AND no = ?2"

abbrev pub parked_delete : List ℕ
parked_delete = codes "DELETE FROM parked WHERE asker = ?1 AND no = ?2"

abbrev pub names_select : List ℕ
names_select = codes "SELECT body FROM names WHERE asker = ?1 AND no = ?2"

abbrev pub parked_select : List ℕ
parked_select = codes "SELECT body FROM parked WHERE asker = ?1 AND no = ?2"

names_delete_parts : IsDelete names_delete (codes "names")
unfolding everything
names_delete_parts = record {
  p = _;
  e = _;
  parsed = refl;
  statement = refl;
  formats = refl;
  test = record {
    l = _;
    r = _;
    la = _;
    lb = _;
    ra = _;
    rb = _;
    both' = refl;
    left = refl;
    right = refl;
    asker = refl;
    number = refl;
    first' = refl;
    second = refl;
    e_hands = refl;
    l_hands = refl;
    r_hands = refl;
    lb_hands = refl;
    rb_hands = refl;
  };
}

names_select_parts : (it : IsFiltered names_select (codes "names")) × (a : Written)
    × ((out-Core (out-Select it.sel).first).shown ≡ a ∷ []) × IsColumn a (codes "body") × IsByName it.e
unfolding everything
names_select_parts = (
  record {
    p = _;
    sel = _;
    src = _;
    e = _;
    parsed = refl;
    statement = refl;
    formats = refl;
    alone = record { with' = refl; others = refl; order = refl; limit = refl; offset = refl };
    from = refl;
    origin = refl;
    alias = refl;
    none = refl;
    on = refl;
    left = refl;
    distinct = refl;
    filter = refl;
    group = refl;
    having = refl;
  },
  _,
  refl,
  record { e = _; text = _; one = refl; expr = refl },
  record {
    l = _;
    r = _;
    la = _;
    lb = _;
    ra = _;
    rb = _;
    both' = refl;
    left = refl;
    right = refl;
    asker = refl;
    number = refl;
    first' = refl;
    second = refl;
    e_hands = refl;
    l_hands = refl;
    r_hands = refl;
    lb_hands = refl;
    rb_hands = refl;
  },
)

rich_names : IsRich max_budget
rich_names = record { b0 = refl; b1 = refl; b2 = refl; b3 = refl; b4 = refl; b5 = refl; b6 = refl }

names_typed : (s : Schema) (at tree : ℕ) → Finds s (codes "names") at (names_at tree) → (i : ℕ)
    → program s [] (draft_where tree (by_name 1 2) (col 1 0 ∷ [])) ≡ Ok (record { lets = []; body = reading tree 0 (col 1 0 ∷ []) })
unfolding program
names_typed s at tree found i = rw (found.stored, found.by_tree) refl

pub names_deletes : (s : Schema) (at tree : ℕ) → Finds s (codes "names") at (names_at tree)
    → Means s names_delete (command.Delete at (record { lets = []; body = reading tree 0 (col 1 0 ∷ []) }))
names_deletes s at tree found =
    let it = names_delete_parts in
    let t = names_at tree in
    let draft = deleted_is s at t it.e (by_name 1 2) (names_lowered s at tree found [] it.e it.test (fresh 2 max_budget) rich_names) in
    means s names_delete _ (compiled_is s names_delete it.p _ it.parsed (untimed_delete s names_delete (codes "names") it) (plain_delete s names_delete
    (codes "names") it _) (command_delete s names_delete (codes "names") it _ at t _ _ found.named found.has draft (names_typed s at tree found 0))) refl refl

body_typed_names : (s : Schema) (at tree : ℕ) → Finds s (codes "names") at (names_at tree)
    → program s [] (draft_where tree (by_name 1 2) (col 1 3 ∷ [])) ≡ Ok (record { lets = []; body = reading tree 0 (col 1 3 ∷ []) })
unfolding program
body_typed_names s at tree found = rw (found.stored, found.by_tree) refl

pub names_selects : (s : Schema) (at tree : ℕ) → Finds s (codes "names") at (names_at tree)
    → Means s names_select (command.Select (record { lets = []; body = reading tree 0 (col 1 3 ∷ []) }) (codes "body" ∷ []))
unfolding same_name
names_selects s at tree found =
    let parts = names_select_parts in
    let it = parts.0 in
    let t = names_at tree in
    let c = column_of (codes "body") kind.Text true in
    let core = (out-Select it.sel).first in
    let one = column_shown s (codes "names") (codes "body") at 2 t c parts.1 [] begun parts.3 refl found.has refl refl in
    let st = after_column t 2 c begun in
    let columns = shown_column t 2 c ∷ [] in
    filtered_is s names_select (codes "names") it at t columns (by_name 1 2) st _ found.named found.has
    (result_one lower (outermost s) (level_at (codes "names") at) core parts.1 columns begun st parts.2 one) refl refl (names_lowered s at tree found
    columns it.e parts.4 st (record { b0 = refl; b1 = refl; b2 = refl; b3 = refl; b4 = refl; b5 = refl; b6 = refl })) (body_typed_names s at tree found)

parked_delete_parts : IsDelete parked_delete (codes "parked")
unfolding everything
parked_delete_parts = record {
  p = _;
  e = _;
  parsed = refl;
  statement = refl;
  formats = refl;
  test = record {
    l = _;
    r = _;
    la = _;
    lb = _;
    ra = _;
    rb = _;
    both' = refl;
    left = refl;
    right = refl;
    asker = refl;
    number = refl;
    first' = refl;
    second = refl;
    e_hands = refl;
    l_hands = refl;
    r_hands = refl;
    lb_hands = refl;
    rb_hands = refl;
  };
}

parked_select_parts : (it : IsFiltered parked_select (codes "parked")) × (a : Written)
    × ((out-Core (out-Select it.sel).first).shown ≡ a ∷ []) × IsColumn a (codes "body") × IsByName it.e
unfolding everything
parked_select_parts = (
  record {
    p = _;
    sel = _;
    src = _;
    e = _;
    parsed = refl;
    statement = refl;
    formats = refl;
    alone = record { with' = refl; others = refl; order = refl; limit = refl; offset = refl };
    from = refl;
    origin = refl;
    alias = refl;
    none = refl;
    on = refl;
    left = refl;
    distinct = refl;
    filter = refl;
    group = refl;
    having = refl;
  },
  _,
  refl,
  record { e = _; text = _; one = refl; expr = refl },
  record {
    l = _;
    r = _;
    la = _;
    lb = _;
    ra = _;
    rb = _;
    both' = refl;
    left = refl;
    right = refl;
    asker = refl;
    number = refl;
    first' = refl;
    second = refl;
    e_hands = refl;
    l_hands = refl;
    r_hands = refl;
    lb_hands = refl;
    rb_hands = refl;
  },
)

rich_parked : IsRich max_budget
rich_parked = record { b0 = refl; b1 = refl; b2 = refl; b3 = refl; b4 = refl; b5 = refl; b6 = refl }

parked_typed : (s : Schema) (at tree : ℕ) → Finds s (codes "parked") at (parked_at tree) → (i : ℕ)
    → program s [] (draft_where tree (by_name 2 3) (col 1 0 ∷ [])) ≡ Ok (record { lets = []; body = reading tree 1 (col 1 0 ∷ []) })
unfolding program
parked_typed s at tree found i = rw (found.stored, found.by_tree) refl

pub parked_deletes : (s : Schema) (at tree : ℕ) → Finds s (codes "parked") at (parked_at tree)
    → Means s parked_delete (command.Delete at (record { lets = []; body = reading tree 1 (col 1 0 ∷ []) }))
parked_deletes s at tree found =
    let it = parked_delete_parts in
    let t = parked_at tree in
    let draft = deleted_is s at t it.e (by_name 2 3) (parked_lowered s at tree found [] it.e it.test (fresh 2 max_budget) rich_parked) in
    means s parked_delete _
    (compiled_is s parked_delete it.p _ it.parsed (untimed_delete s parked_delete (codes "parked") it) (plain_delete s parked_delete (codes "parked") it _)
    (command_delete s parked_delete (codes "parked") it _ at t _ _ found.named found.has draft (parked_typed s at tree found 0))) refl refl

body_typed_parked : (s : Schema) (at tree : ℕ) → Finds s (codes "parked") at (parked_at tree)
    → program s [] (draft_where tree (by_name 2 3) (col 1 1 ∷ [])) ≡ Ok (record { lets = []; body = reading tree 1 (col 1 1 ∷ []) })
unfolding program
body_typed_parked s at tree found = rw (found.stored, found.by_tree) refl

pub parked_selects : (s : Schema) (at tree : ℕ) → Finds s (codes "parked") at (parked_at tree)
    → Means s parked_select (command.Select (record { lets = []; body = reading tree 1 (col 1 1 ∷ []) }) (codes "body" ∷ []))
unfolding same_name
parked_selects s at tree found =
    let parts = parked_select_parts in
    let it = parts.0 in
    let t = parked_at tree in
    let c = column_of (codes "body") kind.Text true in
    let core = (out-Select it.sel).first in
    let one = column_shown s (codes "parked") (codes "body") at 0 t c parts.1 [] begun parts.3 refl found.has refl refl in
    let st = after_column t 0 c begun in
    let columns = shown_column t 0 c ∷ [] in
    filtered_is s parked_select (codes "parked") it at t columns (by_name 2 3) st _ found.named found.has
    (result_one lower (outermost s) (level_at (codes "parked") at) core parts.1 columns begun st parts.2 one) refl refl (parked_lowered s at tree found
    columns it.e parts.4 st (record { b0 = refl; b1 = refl; b2 = refl; b3 = refl; b4 = refl; b5 = refl; b6 = refl })) (body_typed_parked s at tree found)

-- ---- the DELETE of all rows

-- a text that parses as a DELETE with no test and no RETURNING
pub record IsClear (text : List ℕ) (table : Name) : Type 0 where
  pub p : Parsed
  pub parsed : first text ≡ Ok p
  pub statement : p.statement ≡ written.Delete table None []
  pub formats : p.formats ≡ []

module _ (s : Schema) (text : List ℕ) (table : Name) (it : IsClear text table) where
  untimed_clear : timed s it.p.formats it.p.statement ≡ []
  unfolding timed
  untimed_clear = rw (it.statement, it.formats) refl

  plain_clear : (base : ℕ) → returning s base it.p.statement ≡ Ok None
  unfolding returning shows
  plain_clear base = rw it.statement refl

  command_clear : (base at : ℕ) (t : Table) (d : Draft) (prog : Program) → table_named s table ≡ Some at → slice_get s.tables at ≡ Some t
      → deleted s at t None ≡ Ok d → program s [] d ≡ Ok prog → command_in s it.p.formats base it.p.statement ≡ Ok (command.Delete at prog)
  unfolding command_in delete
  command_clear base at t d prog named has is typed = rw (it.statement, named, has, is, typed) refl

cleared_is : (s : Schema) (at : ℕ) (t : Table) → deleted s at t None ≡ Ok (draft_where t.tree [] (col 1 0 ∷ []))
unfolding deleted picked tests
cleared_is s at t = refl

-- the query of all rowids
abbrev pub scanning : ℕ → Query
scanning tree = record {
  from = inner tree end;
  filter = [];
  group = None;
  project = col 1 0 ∷ [];
  distinct = false;
  collations = [];
  order = [];
  limit = lit (Int (negsuc 0));
  offset = lit (Int (pos 0));
}

clear_typed : (s : Schema) (name : Name) (at : ℕ) (t : Table) → Finds s name at t
    → program s [] (draft_where t.tree [] (col 1 0 ∷ [])) ≡ Ok (record { lets = []; body = scanning t.tree })
unfolding program
clear_typed s name at t found = rw (found.stored, found.by_tree) refl

pub clears : (s : Schema) (text : List ℕ) (name : Name) (it : IsClear text name) (at : ℕ) (t : Table)
    → Finds s name at t → Means s text (command.Delete at (record { lets = []; body = scanning t.tree }))
clears s text name it at t found =
    means s text _ (compiled_is s text it.p _ it.parsed (untimed_clear s text name it) (plain_clear s text name it _)
    (command_clear s text name it _ at t _ _ found.named found.has (cleared_is s at t) (clear_typed s name at t found))) refl refl

abbrev pub desk_clear : List ℕ
desk_clear = codes "DELETE FROM desk"

desk_clear_parts : IsClear desk_clear (codes "desk")
unfolding everything
desk_clear_parts = record { p = _; parsed = refl; statement = refl; formats = refl }

pub desk_clears : (s : Schema) (at tree : ℕ) → Finds s (codes "desk") at (desk_at tree)
    → Means s desk_clear (command.Delete at (record { lets = []; body = scanning tree }))
desk_clears s at tree found = clears s desk_clear (codes "desk") desk_clear_parts at (desk_at tree) found
