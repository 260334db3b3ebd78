-- The fixed INSERTs of a desk, for any schema that finds the desk's tables by name.
use Rattle.std.proofs.Common.{None, Some, slice_get, pos, ◌≡◌, List, [], ◌∷◌, ◌+◌, ℕ, Ok, codes, refl}
use Rattle.sqlite.specs.declared.types.Value.TheVariants.{Null, Int}
use Rattle.sqlite.specs.Term.{Term, lit, col}
use Rattle.sqlite.specs.Command.TheVariants as command
use Rattle.sqlite.specs.Source.TheVariants.{Values}
use Rattle.sqlite.specs.Schema.{Schema}
use Rattle.sqlite.specs.Table.{Table}
use Rattle.sqlite_tied.specs.Compute.{everything}
use Rattle.sqlite_schema.specs.Names.{table_named}
use Rattle.sqlite_schema.specs.declared.command.Source.{Source}
use Rattle.sqlite_resolve.specs.Compile.{first, command as command_in, returning, timed, small, new_rows, insert, insert_or_abort, shows}
use Rattle.sqlite_resolve.specs.Scope.{Name}
use Rattle.sqlite_syntax.specs.declared.statement.Parsed.{Parsed}
use Rattle.sqlite_ast.specs.declared.Rows.{Rows}
use Rattle.sqlite_ast.specs.declared.Conflict.TheVariants as conflict
use Rattle.sqlite_ast.specs.declared.Statement.TheVariants as written
use Rattle.store_tables.proofs.Layers.{compiled_is}
use Rattle.store_tables.proofs.QueriesOf.{Means, means}
use Rattle.store_tables.specs.Stored.{Finds}
use Rattle.store_tables.specs.DeskTables.{desk_at, messages_at, names_at, verdicts_at, parked_at}

-- a text that parses as an INSERT with no OR, no ON CONFLICT and no RETURNING
pub record IsInsert (text : List ℕ) (table : Name) (columns : List Name) : Type 0 where
  pub p : Parsed
  pub rows : Rows
  pub parsed : first text ≡ Ok p
  pub statement : p.statement ≡ written.Insert conflict.Abort table columns rows [] []
  pub formats : p.formats ≡ []

untimed_insert : (s : Schema) (text : List ℕ) (table : Name) (columns : List Name) (it : IsInsert text table columns) (at : ℕ) (t : Table)
    → table_named s table ≡ Some at → slice_get s.tables at ≡ Some t → t.stamps.formats ≡ [] → timed s it.p.formats it.p.statement ≡ []
unfolding timed
untimed_insert s text table columns it at t named has unstamped = rw (it.statement, it.formats, named, has, unstamped) refl

plain_insert : (s : Schema) (text : List ℕ) (table : Name) (columns : List Name) (it : IsInsert text table columns) (base : ℕ)
    → returning s base it.p.statement ≡ Ok None
unfolding returning shows
plain_insert s text table columns it base = rw it.statement refl

command_insert : (s : Schema) (text : List ℕ) (table : Name) (columns : List Name) (it : IsInsert text table columns) (base at : ℕ) (t : Table) (src : Source)
    → table_named s table ≡ Some at → slice_get s.tables at ≡ Some t
    → new_rows s t base columns it.rows ≡ Ok src → command_in s it.p.formats base it.p.statement ≡ Ok (command.Insert at src)
unfolding command_in insert insert_or_abort
command_insert s text table columns it base at t src named has rows = rw (it.statement, named, has, rows) refl

pub insert_is : (s : Schema) (text : List ℕ) (table : Name) (columns : List Name) (it : IsInsert text table columns) (at : ℕ) (t : Table) (src : Source)
    → table_named s table ≡ Some at → slice_get s.tables at ≡ Some t → t.stamps.formats ≡ []
    → new_rows s t (small it.p.names + 0) columns it.rows ≡ Ok src → Means s text (command.Insert at src)
insert_is s text table columns it at t src named has unstamped rows =
    means s text _ (compiled_is s text it.p (command.Insert at src) it.parsed (untimed_insert s text table columns it at t named has unstamped)
    (plain_insert s text table columns it _) (command_insert s text table columns it _ at t src named has rows)) refl refl

abbrev pub roster_text : List ℕ
roster_text = codes "INSERT INTO desk (id, schema, roster) VALUES (1, 2, ?1)"

abbrev pub roster_terms : List Term
roster_terms = lit (Int (pos 1)) ∷ lit Null ∷ lit (Int (pos 2)) ∷ col 0 0 ∷ []

-- the rows are read with no look at the schema
roster_parts : (it : IsInsert roster_text (codes "desk") (codes "id" ∷ codes "schema" ∷ codes "roster" ∷ [])) × ((s : Schema) (tree : ℕ)
    → new_rows s (desk_at tree) (small it.p.names + 0) (codes "id" ∷ codes "schema" ∷ codes "roster" ∷ []) it.rows ≡ Ok (Values roster_terms 4))
unfolding everything
roster_parts = (record { p = _; rows = _; parsed = refl; statement = refl; formats = refl }, λ s tree. refl)

pub roster_put : (s : Schema) (at tree : ℕ) → Finds s (codes "desk") at (desk_at tree) → Means s roster_text (command.Insert at (Values roster_terms 4))
roster_put s at tree it =
    insert_is s roster_text (codes "desk") _ roster_parts.0 at (desk_at tree) (Values roster_terms 4) it.named it.has refl (roster_parts.1 s tree)

-- ---- the INSERTs of the messages and of the three tables of rows

abbrev pub text_insert : List ℕ
text_insert = codes "INSERT INTO messages (body) VALUES (?1)"

abbrev pub name_insert : List ℕ
name_insert = codes "INSERT INTO names (asker, no, body, disputed) VALUES (?1, ?2, ?3, ?4)"

abbrev pub verdict_insert : List ℕ
verdict_insert = codes "INSERT INTO verdicts (asker, no, person, kind, at) VALUES (?1, ?2, ?3, ?4, ?5)"

abbrev pub parked_insert : List ℕ
parked_insert = codes "INSERT INTO parked (body, asker, no) VALUES (?1, ?2, ?3)"

abbrev pub text_terms : List Term
text_terms = lit Null ∷ col 0 0 ∷ []

abbrev pub name_terms : List Term
name_terms = lit Null ∷ col 0 0 ∷ col 0 1 ∷ col 0 2 ∷ col 0 3 ∷ []

abbrev pub verdict_terms : List Term
verdict_terms = lit Null ∷ col 0 0 ∷ col 0 1 ∷ col 0 2 ∷ col 0 3 ∷ col 0 4 ∷ []

abbrev pub parked_terms : List Term
parked_terms = lit Null ∷ col 0 0 ∷ col 0 1 ∷ col 0 2 ∷ []

abbrev text_columns : List Name
text_columns = codes "body" ∷ []

abbrev name_columns : List Name
name_columns = codes "asker" ∷ codes "no" ∷ codes "body" ∷ codes "disputed" ∷ []

abbrev verdict_columns : List Name
verdict_columns = codes "asker" ∷ codes "no" ∷ codes "person" ∷ codes "kind" ∷ codes "at" ∷ []

abbrev parked_columns : List Name
parked_columns = codes "body" ∷ codes "asker" ∷ codes "no" ∷ []

text_parts : (it : IsInsert text_insert (codes "messages") text_columns)
    × ((s : Schema) (tree : ℕ) → new_rows s (messages_at tree) (small it.p.names + 0) text_columns it.rows ≡ Ok (Values text_terms 2))
unfolding everything
text_parts = (record { p = _; rows = _; parsed = refl; statement = refl; formats = refl }, λ s tree. refl)

name_parts : (it : IsInsert name_insert (codes "names") name_columns)
    × ((s : Schema) (tree : ℕ) → new_rows s (names_at tree) (small it.p.names + 0) name_columns it.rows ≡ Ok (Values name_terms 5))
unfolding everything
name_parts = (record { p = _; rows = _; parsed = refl; statement = refl; formats = refl }, λ s tree. refl)

verdict_parts : (it : IsInsert verdict_insert (codes "verdicts") verdict_columns)
    × ((s : Schema) (tree : ℕ) → new_rows s (verdicts_at tree) (small it.p.names + 0) verdict_columns it.rows ≡ Ok (Values verdict_terms 6))
unfolding everything
verdict_parts = (record { p = _; rows = _; parsed = refl; statement = refl; formats = refl }, λ s tree. refl)

parked_parts : (it : IsInsert parked_insert (codes "parked") parked_columns)
    × ((s : Schema) (tree : ℕ) → new_rows s (parked_at tree) (small it.p.names + 0) parked_columns it.rows ≡ Ok (Values parked_terms 4))
unfolding everything
parked_parts = (record { p = _; rows = _; parsed = refl; statement = refl; formats = refl }, λ s tree. refl)

pub text_put : (s : Schema) (at tree : ℕ) → Finds s (codes "messages") at (messages_at tree) → Means s text_insert (command.Insert at (Values text_terms 2))
text_put s at tree it =
    insert_is s text_insert (codes "messages") _ text_parts.0 at (messages_at tree) (Values text_terms 2) it.named it.has refl (text_parts.1 s tree)

pub name_put : (s : Schema) (at tree : ℕ) → Finds s (codes "names") at (names_at tree) → Means s name_insert (command.Insert at (Values name_terms 5))
name_put s at tree it =
    insert_is s name_insert (codes "names") _ name_parts.0 at (names_at tree) (Values name_terms 5) it.named it.has refl (name_parts.1 s tree)

pub verdict_put : (s : Schema) (at tree : ℕ) → Finds s (codes "verdicts") at (verdicts_at tree)
    → Means s verdict_insert (command.Insert at (Values verdict_terms 6))
verdict_put s at tree it =
    insert_is s verdict_insert (codes "verdicts") _ verdict_parts.0 at (verdicts_at tree) (Values verdict_terms 6) it.named it.has refl (verdict_parts.1 s tree)

pub parked_put : (s : Schema) (at tree : ℕ) → Finds s (codes "parked") at (parked_at tree) → Means s parked_insert (command.Insert at (Values parked_terms 4))
parked_put s at tree it =
    insert_is s parked_insert (codes "parked") _ parked_parts.0 at (parked_at tree) (Values parked_terms 4) it.named it.has refl (parked_parts.1 s tree)
