-- The CREATEs of a desk, for any schema that has none of its names.
use Rattle.std.proofs.Common.{None, ◌==◌, length, true, false, ◌≡◌, List, [], ℕ, Ok, codes, refl, sym, subst, ap, ◌∙◌}
use Rattle.sqlite.specs.Command.TheVariants as command
use Rattle.sqlite.specs.Schema.{Schema}
use Rattle.sqlite.specs.Table.{Table}
use Rattle.sqlite.specs.Listing.{understood}
use Rattle.sqlite.specs.Compile.{table_defined_by}
use Rattle.sqlite.proofs.Callers.{IsPlain, command_of, statement_of}
use Rattle.sqlite_tied.specs.Compute.{everything}
use Rattle.sqlite_resolve.specs.Compile.{first, command as command_in, returning, timed, create_table, is_attached, creates, is_reserved}
use Rattle.sqlite_resolve.specs.Define as define
use Rattle.sqlite_resolve.specs.Scope.{Name}
use Rattle.sqlite_syntax.specs.declared.statement.Parsed.{Parsed}
use Rattle.sqlite_ast.specs.declared.CreateTable.{CreateTable}
use Rattle.sqlite_ast.specs.declared.Statement.TheVariants as written
use Rattle.store_tables.specs.DeskTables.{desk, messages, names, verdicts, parked}
use Rattle.store_tables.specs.Stored.{IsUnused}
use Rattle.store_tables.proofs.Layers.{compiled_is, understood_is}

-- a text that parses as the CREATE of a table
pub record IsCreate (text : List ℕ) (name : Name) : Type 0 where
  pub p : Parsed
  pub def : CreateTable
  pub t : Table
  pub parsed : first text ≡ Ok p
  pub statement : p.statement ≡ written.CreateTable def
  pub formats : p.formats ≡ []
  pub name_is : def.name ≡ name
  pub missing : def.if_missing ≡ false
  pub resolves : def.resolves ≡ false
  pub defined : define.table [] def ≡ Ok t
  pub whole : (length t.computed == length t.stamps.places) ≡ true
  pub reserved : is_reserved name ≡ false
  pub text_is : (s : Schema) → statement_of text
      (Ok (record { command = command.CreateTable; returning = None; names = p.names; formats = []; start = p.start; end = p.end; tail = p.tail })) ≡ text

module _ (s : Schema) (text : List ℕ) (name : Name) (it : IsCreate text name) (free : IsUnused s name) where
  untimed : timed s it.p.formats it.p.statement ≡ []
  unfolding timed
  untimed = rw it.statement refl

  shows_none : (base : ℕ) → returning s base it.p.statement ≡ Ok None
  unfolding returning
  shows_none base = rw it.statement refl

  makes : (base : ℕ) → command_in s it.p.formats base it.p.statement ≡ Ok command.CreateTable
  unfolding command_in create_table is_attached creates
  makes base = rw (it.statement, it.formats, it.defined, it.name_is, free.view, free.table, free.index, it.reserved, it.whole, it.resolves) refl

  pub create_is : (command_of (understood s text) ≡ command.CreateTable) × (statement_of text (understood s text) ≡ text) × IsPlain (understood s text)
  create_is =
      let c = compiled_is s text it.p command.CreateTable it.parsed untimed (shows_none _) (makes _) in
      let known = (understood_is s text _ c).0 in
      (ap command_of known, ap (statement_of text) known ∙ it.text_is s, subst IsPlain (sym known) (refl, refl))

abbrev pub desk_text : List ℕ
desk_text = codes "CREATE TABLE desk (id INTEGER PRIMARY KEY, schema INTEGER NOT NULL, roster TEXT NOT NULL) STRICT"

abbrev pub messages_text : List ℕ
messages_text = codes "CREATE TABLE messages (body TEXT PRIMARY KEY NOT NULL) STRICT"

desk_parts : IsCreate desk_text (codes "desk")
unfolding everything
desk_parts = record {
  p = _;
  def = _;
  t = _;
  parsed = refl;
  statement = refl;
  formats = refl;
  name_is = refl;
  missing = refl;
  resolves = refl;
  defined = refl;
  whole = refl;
  reserved = refl;
  text_is = λ s. refl;
}

messages_parts : IsCreate messages_text (codes "messages")
unfolding everything
messages_parts = record {
  p = _;
  def = _;
  t = _;
  parsed = refl;
  statement = refl;
  formats = refl;
  name_is = refl;
  missing = refl;
  resolves = refl;
  defined = refl;
  whole = refl;
  reserved = refl;
  text_is = λ s. refl;
}

pub desk_means : (s : Schema) → IsUnused s (codes "desk") → (command_of (understood s desk_text) ≡ command.CreateTable)
    × (statement_of desk_text (understood s desk_text) ≡ desk_text) × IsPlain (understood s desk_text)
desk_means s free = create_is s desk_text (codes "desk") desk_parts free

pub messages_means : (s : Schema) → IsUnused s (codes "messages") → (command_of (understood s messages_text) ≡ command.CreateTable)
    × (statement_of messages_text (understood s messages_text) ≡ messages_text) × IsPlain (understood s messages_text)
messages_means s free = create_is s messages_text (codes "messages") messages_parts free

pub defined : (table_defined_by desk_text ≡ Ok desk) × (table_defined_by messages_text ≡ Ok (record messages { tree = 0 }))
unfolding everything
defined = (refl, refl)

abbrev pub names_text : List ℕ
names_text =
    codes "CREATE TABLE names (asker TEXT NOT NULL, no INTEGER NOT NULL, body TEXT NOT NULL, disputed INTEGER NOT NULL, PRIMARY KEY (asker, no)) STRICT"

abbrev pub verdicts_text : List ℕ
verdicts_text =
    codes "CREATE TABLE verdicts (asker TEXT NOT NULL, no INTEGER NOT NULL, person TEXT NOT NULL, kind TEXT NOT NULL, at INTEGER NOT NULL, PRIMARY KEY (asker, no, person, kind, at)) STRICT"

abbrev pub parked_text : List ℕ
parked_text = codes "CREATE TABLE parked (body TEXT PRIMARY KEY NOT NULL, asker TEXT NOT NULL, no INTEGER NOT NULL) STRICT"

names_parts : IsCreate names_text (codes "names")
unfolding everything
names_parts = record {
  p = _;
  def = _;
  t = _;
  parsed = refl;
  statement = refl;
  formats = refl;
  name_is = refl;
  missing = refl;
  resolves = refl;
  defined = refl;
  whole = refl;
  reserved = refl;
  text_is = λ s. refl;
}

verdicts_parts : IsCreate verdicts_text (codes "verdicts")
unfolding everything
verdicts_parts = record {
  p = _;
  def = _;
  t = _;
  parsed = refl;
  statement = refl;
  formats = refl;
  name_is = refl;
  missing = refl;
  resolves = refl;
  defined = refl;
  whole = refl;
  reserved = refl;
  text_is = λ s. refl;
}

parked_parts : IsCreate parked_text (codes "parked")
unfolding everything
parked_parts = record {
  p = _;
  def = _;
  t = _;
  parsed = refl;
  statement = refl;
  formats = refl;
  name_is = refl;
  missing = refl;
  resolves = refl;
  defined = refl;
  whole = refl;
  reserved = refl;
  text_is = λ s. refl;
}

pub names_means : (s : Schema) → IsUnused s (codes "names") → (command_of (understood s names_text) ≡ command.CreateTable)
    × (statement_of names_text (understood s names_text) ≡ names_text) × IsPlain (understood s names_text)
names_means s free = create_is s names_text (codes "names") names_parts free

pub verdicts_means : (s : Schema) → IsUnused s (codes "verdicts") → (command_of (understood s verdicts_text) ≡ command.CreateTable)
    × (statement_of verdicts_text (understood s verdicts_text) ≡ verdicts_text) × IsPlain (understood s verdicts_text)
verdicts_means s free = create_is s verdicts_text (codes "verdicts") verdicts_parts free

pub parked_means : (s : Schema) → IsUnused s (codes "parked") → (command_of (understood s parked_text) ≡ command.CreateTable)
    × (statement_of parked_text (understood s parked_text) ≡ parked_text) × IsPlain (understood s parked_text)
parked_means s free = create_is s parked_text (codes "parked") parked_parts free

pub defined_rows : (table_defined_by names_text ≡ Ok names) × (table_defined_by verdicts_text ≡ Ok verdicts) × (table_defined_by parked_text ≡ Ok parked)
unfolding everything
defined_rows = (refl, refl, refl)
