-- What a SELECT of columns of one table means, for any schema that finds the table.
use Rattle.std.proofs.Common.{None, Some, slice_get, false, pos, negsuc, ◌≡◌, List, [], ◌∷◌, ◌++◌, ℕ, Ok, refl, map}
use Rattle.sqlite.specs.declared.types.Value.TheVariants.{Int}
use Rattle.sqlite.specs.Term.{Term, lit}
use Rattle.sqlite.specs.Command.TheVariants as command
use Rattle.sqlite.specs.Schema.{Schema}
use Rattle.sqlite.specs.Table.{Table}
use Rattle.sqlite_schema.specs.declared.command.Command.{Command}
use Rattle.sqlite_schema.specs.declared.program.Program.{Program}
use Rattle.sqlite_schema.specs.Names.{table_named}
use Rattle.sqlite_draft.specs.declared.query.Draft.{Draft}
use Rattle.sqlite_draft.specs.declared.join.Step.TheVariants.{Inner}
use Rattle.sqlite_draft.specs.Join.{chain}
use Rattle.sqlite_resolve.specs.Lowering.{fresh, max_budget}
use Rattle.sqlite_resolve.specs.Compile.{compiled, first, command as command_in, returning, timed}
use Rattle.sqlite_resolve.specs.declared.state.State.{State}
use Rattle.sqlite_resolve.specs.declared.select.Clauses.{Clauses}
use Rattle.sqlite_resolve.specs.declared.scope.Level.{Level}
use Rattle.sqlite_resolve.specs.declared.scope.Output.{Output}
use Rattle.sqlite_resolve.specs.Scope.{Name}
use Rattle.sqlite_resolve.specs.Select.{assembled, ungrouped, outermost}
use Rattle.sqlite_resolve.specs.Expr.{lower}
use Rattle.sqlite_resolve.specs.Body.{result}
use Rattle.sqlite_resolve.specs.Program.{program}
use Rattle.sqlite_syntax.specs.declared.statement.Parsed.{Parsed}
use Rattle.sqlite_ast.specs.declared.Statement.TheVariants as written
use Rattle.sqlite_ast.specs.declared.Select.{Select, out-Select}
use Rattle.sqlite_ast.specs.declared.Core.{out-Core}
use Rattle.sqlite_ast.specs.declared.Source.{Source, out-Source}
use Rattle.sqlite_ast.specs.declared.Origin.TheVariants as origin
use Rattle.store_tables.proofs.Layers.{compiled_is, read_is, named_is, body_is, whole_page, IsAlone, query_one, parts_is, bounds_one, no_tests, matching_one}

assembled_is : (limit offset : Term) (c : Clauses) (st : State) → c.is_grouped ≡ false → st.steps ≡ [] → c.body.filter ≡ [] → c.order ≡ []
    → assembled false limit offset c st ≡ Ok (record {
      from = chain (c.body.steps ++ []);
      filter = [];
      group = None;
      project = map (λ (o : Output). o.term) c.body.level.shown;
      distinct = false;
      collations = [];
      order = [];
      limit = limit;
      offset = offset;
    })
unfolding assembled ungrouped
assembled_is limit offset c st plain no_steps no_filter no_order = rw (plain, no_steps, no_filter, no_order) refl

-- a text that parses as SELECT .. FROM one table, with no more
pub record IsSimple (text : List ℕ) (table : Name) : Type 0 where
  pub p : Parsed
  pub sel : Select
  pub src : Source
  pub parsed : first text ≡ Ok p
  pub statement : p.statement ≡ written.Select sel
  pub formats : p.formats ≡ []
  pub alone : IsAlone sel
  pub from : (out-Core (out-Select sel).first).from ≡ src ∷ []
  pub origin : (out-Source src).origin ≡ origin.Table table
  pub alias : (out-Source src).alias ≡ None
  pub none : (out-Source src).using ≡ []
  pub on : (out-Source src).on ≡ None
  pub left : (out-Source src).is_left ≡ false
  pub distinct : (out-Core (out-Select sel).first).distinct ≡ false
  pub filter : (out-Core (out-Select sel).first).filter ≡ None
  pub group : (out-Core (out-Select sel).first).group ≡ []
  pub having : (out-Core (out-Select sel).first).having ≡ None

abbrev pub begun : State
begun = record (fresh 1 max_budget) { next = 2 }

abbrev pub level_at : Name → ℕ → Level
level_at table m = record { tables = record { name = table; table = m; slot = 1; shared = [] } ∷ []; shown = [] }

abbrev pub draft_of : ℕ → List Output → Draft
draft_of tree columns = record {
  from = chain (Inner tree ∷ []);
  filter = [];
  group = None;
  project = map (λ (o : Output). o.term) columns;
  distinct = false;
  collations = [];
  order = [];
  limit = lit (Int (negsuc 0));
  offset = lit (Int (pos 0));
}

untimed_select : (s : Schema) (p : Parsed) (sel : Select) → p.statement ≡ written.Select sel → p.formats ≡ [] → timed s p.formats p.statement ≡ []
unfolding timed
untimed_select s p sel is none = rw (is, none) refl

plain_select : (s : Schema) (p : Parsed) (sel : Select) (base : ℕ) → p.statement ≡ written.Select sel → returning s base p.statement ≡ Ok None
unfolding returning
plain_select s p sel base is = rw is refl

command_select : (s : Schema) (p : Parsed) (sel : Select) (base : ℕ) (c : Command) → p.statement ≡ written.Select sel
    → Rattle.sqlite_resolve.specs.Compile.read s sel ≡ Ok c → command_in s p.formats base p.statement ≡ Ok c
unfolding command_in
command_select s p sel base c is h = rw (is, h) refl

pub select_is : (s : Schema) (text : List ℕ) (table : Name) (it : IsSimple text table) (m : ℕ) (t : Table) (columns : List Output) (st : State) (prog : Program)
    → table_named s table ≡ Some m → slice_get s.tables m ≡ Some t
    → result lower (outermost s) (level_at table m) (out-Select it.sel).first begun ≡ Ok (columns, st) → st.aggregates ≡ [] → st.steps ≡ []
    → program s [] (draft_of t.tree columns) ≡ Ok prog → compiled s text ≡ Ok (record {
      command = command.Select prog (map (λ (o : Output). o.name) columns);
      returning = None;
      names = it.p.names;
      formats = [];
      start = it.p.start;
      end = it.p.end;
      tail = it.p.tail;
    })
select_is s text table it m t columns st prog named has shows no_sums no_steps typed =
    let core = (out-Select it.sel).first in
    let bound = bounds_one s it.src table m (fresh 1 max_budget) it.origin it.alias it.none named refl in
    let matched =
    matching_one lower (outermost s) core it.src table m 1 columns t None [] st st it.from it.on it.none it.left has it.filter (no_tests lower _ [] st) in
    let bodied = body_is lower (outermost s) core (fresh 1 max_budget) begun st st _ columns _ (rw it.from bound) shows matched in
    let parted = parts_is s core _ (fresh 1 max_budget) st bodied no_sums it.group it.having in
    let shown = named_is s core whole_page _ st (draft_of t.tree columns) parted (rw it.distinct (assembled_is _ _ _ st refl no_steps refl refl)) in
    let queried = query_one s it.sel it.src table _ it.alone it.from it.origin shown in
    let reads = read_is s it.sel _ _ _ [] prog queried typed in
    compiled_is s text it.p _ it.parsed (untimed_select s it.p it.sel it.statement it.formats)
    (plain_select s it.p it.sel _ it.statement) (command_select s it.p it.sel _ _ it.statement reads)
