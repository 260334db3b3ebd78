-- The fixed queries of a desk, for any schema that finds the desk's tables by name.
use Rattle.std.proofs.Common.{None, Some, slice_get, true, false, pos, negsuc, ◌≡◌, List, [], ◌∷◌, ◌++◌, ◌-◌, nat_lt, ℕ, Ok, codes, refl, sym, subst, ap}
use Rattle.sqlite.specs.declared.types.Value.TheVariants.{Int}
use Rattle.sqlite.specs.Term.{lit, col}
use Rattle.sqlite.specs.Query.{Query, inner, end}
use Rattle.sqlite.specs.Command.TheVariants as command
use Rattle.sqlite.specs.Schema.{Schema}
use Rattle.sqlite.specs.Table.{Table}
use Rattle.sqlite.specs.Listing.{understood, reads_listing}
use Rattle.sqlite.proofs.Callers.{IsPlain, command_of}
use Rattle.sqlite_tied.specs.Compute.{everything}
use Rattle.sqlite_schema.specs.Names.{column_named, place_of}
use Rattle.sqlite_schema.specs.declared.schema.Column.{Column as Column'}
use Rattle.sqlite_schema.specs.Names.{same_name}
use Rattle.sqlite_schema.specs.declared.command.Command.{Command}
use Rattle.sqlite_schema.specs.declared.schema.Kind.TheVariants as kind
use Rattle.sqlite_resolve.specs.Compile.{compiled}
use Rattle.sqlite_resolve.specs.declared.state.State.{State}
use Rattle.sqlite_resolve.specs.declared.compiled.Compiled.{Compiled}
use Rattle.sqlite_resolve.specs.declared.scope.Output.{Output}
use Rattle.sqlite_resolve.specs.Lowering.{either}
use Rattle.sqlite_resolve.specs.Scope.{Name, declared}
use Rattle.sqlite_resolve.specs.Select.{outermost}
use Rattle.sqlite_resolve.specs.Expr.{lower}
use Rattle.sqlite_resolve.specs.Body.{within, shown}
use Rattle.sqlite_resolve.specs.Program.{program}
use Rattle.sqlite_ast.specs.declared.Expr.{Expr, out-Expr}
use Rattle.sqlite_ast.specs.declared.Expr.TheOpen.{Expr-F, Shown-F}
use Rattle.sqlite_ast.specs.declared.Shown.{Shown as Written, out-Shown}
use Rattle.sqlite_ast.specs.declared.Select.{out-Select}
use Rattle.sqlite_ast.specs.declared.Core.{out-Core}
use Rattle.store_tables.specs.DeskTables.{column_of}
use Rattle.store_tables.specs.Stored.{Finds}
use Rattle.store_tables.specs.DeskTables.{desk_at, messages_at}
use Rattle.store_tables.proofs.Layers.{find_one, lower_column, heading_is, shown_is, result_one, result_three, understood_is}
use Rattle.store_tables.proofs.Selects.{IsSimple, level_at, begun, draft_of, select_is}

-- ---- a column of the result

pub record IsColumn (a : Written) (name : Name) : Type 0 where
  pub e : Expr
  pub text : Name
  pub one : out-Shown a ≡ Shown-F.One e None text
  pub expr : out-Expr e ≡ Expr-F.Column None name

abbrev pub shown_column : Table → ℕ → Column' → Output
shown_column t at c = record { name = c.name; is_alias = false; is_column = true; term = col 1 (place_of t at); carried = declared t at c }

abbrev pub after_column : Table → ℕ → Column' → State → State
after_column t at c st = record st { budget = st.budget - 1; written = either st.written None; last = declared t at c }

pub column_shown : (s : Schema) (table name : Name) (m at : ℕ) (t : Table) (c : Column') (a : Written) (done : List Output) (st : State)
    → IsColumn a name → nat_lt 1 st.budget ≡ true → slice_get s.tables m ≡ Some t → column_named t name ≡ Some at → slice_get t.columns at ≡ Some c
    → shown lower (within (outermost s) (level_at table m) true) (level_at table m).tables done a st
    ≡ Ok (done ++ shown_column t at c ∷ [], after_column t at c st)
column_shown s table name m at t c a done st is paid has named is_c =
    let cx = within (outermost s) (level_at table m) true in
    let found = find_one s table name m 1 at t [] [] true true has named in
    shown_is lower cx (level_at table m).tables done a is.e name is.text c.name (col 1 (place_of t at)) st (after_column t at c st) is.one is.expr
    (lower_column 699 cx is.e name 1 m at t c st is.expr paid found has is_c) (heading_is cx is.e name is.text 1 m at t c is.expr found has is_c)

-- ---- the texts

abbrev pub list_text : List ℕ
list_text = codes "SELECT body FROM messages"

abbrev pub roster_query : List ℕ
roster_query = codes "SELECT id, schema, roster FROM desk"

list_parts : (it : IsSimple list_text (codes "messages")) × (a : Written) × ((out-Core (out-Select it.sel).first).shown ≡ a ∷ []) × IsColumn a (codes "body")
unfolding everything
list_parts = (
  record {
    p = _;
    sel = _;
    src = _;
    parsed = refl;
    statement = refl;
    formats = refl;
    alone = record { with' = refl; others = refl; order = refl; limit = refl; offset = refl };
    from = refl;
    origin = refl;
    alias = refl;
    none = refl;
    on = refl;
    left = refl;
    distinct = refl;
    filter = refl;
    group = refl;
    having = refl;
  },
  _,
  refl,
  record { e = _; text = _; one = refl; expr = refl },
)

roster_parts : (it : IsSimple roster_query (codes "desk")) × (a : Written) × (b : Written) × (c : Written)
    × ((out-Core (out-Select it.sel).first).shown ≡ a ∷ b ∷ c ∷ []) × IsColumn a (codes "id") × IsColumn b (codes "schema") × IsColumn c (codes "roster")
unfolding everything
roster_parts = (
  record {
    p = _;
    sel = _;
    src = _;
    parsed = refl;
    statement = refl;
    formats = refl;
    alone = record { with' = refl; others = refl; order = refl; limit = refl; offset = refl };
    from = refl;
    origin = refl;
    alias = refl;
    none = refl;
    on = refl;
    left = refl;
    distinct = refl;
    filter = refl;
    group = refl;
    having = refl;
  },
  _,
  _,
  _,
  refl,
  record { e = _; text = _; one = refl; expr = refl },
  record { e = _; text = _; one = refl; expr = refl },
  record { e = _; text = _; one = refl; expr = refl },
)

-- ---- what they mean

abbrev pub listing : ℕ → Query
listing tree = record {
  from = inner tree end;
  filter = [];
  group = None;
  project = col 1 1 ∷ [];
  distinct = false;
  collations = [];
  order = [];
  limit = lit (Int (negsuc 0));
  offset = lit (Int (pos 0));
}

abbrev body_shown : ℕ → List Output
body_shown tree = shown_column (messages_at tree) 0 (column_of (codes "body") kind.Text true) ∷ []

list_typed : (s : Schema) (at tree : ℕ) → Finds s (codes "messages") at (messages_at tree)
    → program s [] (draft_of tree (body_shown tree)) ≡ Ok (record { lets = []; body = listing tree })
unfolding program
list_typed s at tree it = rw (it.stored, it.by_tree) refl

-- what a text means, where it shows no RETURNING and wants no time
pub record Means (s : Schema) (text : List ℕ) (c : Command) : Type 0 where
  pub command : command_of (understood s text) ≡ c
  pub plain : IsPlain (understood s text)
  pub unlisted : reads_listing s text ≡ false

pub means : (s : Schema) (text : List ℕ) (c : Compiled) → compiled s text ≡ Ok c → c.returning ≡ None → c.formats ≡ [] → Means s text c.command
means s text c is shows times =
    let it = understood_is s text c is in
    record { command = ap command_of it.0; plain = subst IsPlain (sym it.0) (shows, times); unlisted = it.1 }

pub list_means : (s : Schema) (at tree : ℕ) → Finds s (codes "messages") at (messages_at tree)
    → Means s list_text (command.Select (record { lets = []; body = listing tree }) (codes "body" ∷ []))
unfolding same_name
list_means s at tree it =
    let parts = list_parts in
    let simple = parts.0 in
    let core = (out-Select simple.sel).first in
    let one = column_shown s (codes "messages") (codes "body") at 0 (messages_at tree) _ parts.1 [] begun parts.3 refl it.has refl refl in
    means s list_text _ (select_is s list_text (codes "messages") simple at (messages_at tree) (body_shown tree) _ _ it.named it.has
    (result_one lower (outermost s) (level_at (codes "messages") at) core parts.1 _ begun _ parts.2 one) refl refl (list_typed s at tree it)) refl refl

abbrev pub marking : ℕ → Query
marking tree = record {
  from = inner tree end;
  filter = [];
  group = None;
  project = col 1 0 ∷ col 1 2 ∷ col 1 3 ∷ [];
  distinct = false;
  collations = [];
  order = [];
  limit = lit (Int (negsuc 0));
  offset = lit (Int (pos 0));
}

abbrev pub roster_names : List (List ℕ)
roster_names = codes "id" ∷ codes "schema" ∷ codes "roster" ∷ []

abbrev mark_shown : ℕ → List Output
mark_shown tree =
    shown_column (desk_at tree) 0 (column_of (codes "id") kind.Integer false) ∷ shown_column (desk_at tree) 1 (column_of (codes "schema") kind.Integer true)
    ∷ shown_column (desk_at tree) 2 (column_of (codes "roster") kind.Text true) ∷ []

mark_typed : (s : Schema) (at tree : ℕ) → Finds s (codes "desk") at (desk_at tree)
    → program s [] (draft_of tree (mark_shown tree)) ≡ Ok (record { lets = []; body = marking tree })
unfolding program
mark_typed s at tree it = rw (it.stored, it.by_tree) refl

pub roster_means : (s : Schema) (at tree : ℕ) → Finds s (codes "desk") at (desk_at tree)
    → Means s roster_query (command.Select (record { lets = []; body = marking tree }) roster_names)
unfolding same_name
roster_means s at tree it =
    let parts = roster_parts in
    let simple = parts.0 in
    let core = (out-Select simple.sel).first in
    let a = column_shown s (codes "desk") (codes "id") at 0 (desk_at tree)
    (column_of (codes "id") kind.Integer false) parts.1 [] begun parts.5 refl it.has refl refl in
    let b = column_shown s (codes "desk") (codes "schema") at 1 (desk_at tree)
    (column_of (codes "schema") kind.Integer true) parts.2 _ _ parts.6 refl it.has refl refl in
    let c = column_shown s (codes "desk") (codes "roster") at 2 (desk_at tree)
    (column_of (codes "roster") kind.Text true) parts.3 _ _ parts.7 refl it.has refl refl in
    means s roster_query _ (select_is s roster_query (codes "desk") simple at (desk_at tree) (mark_shown tree) _ _ it.named it.has (result_three lower
    (outermost s) (level_at (codes "desk") at) core parts.1 parts.2 parts.3 _ _ _ begun _ _ _ parts.4 a b c) refl refl (mark_typed s at tree it)) refl refl
