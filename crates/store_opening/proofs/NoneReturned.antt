-- A SELECT has no RETURNING, whatever the schema is: so a part's statement commits nothing.
use Rattle.std.proofs.Common.{◌≡◌, List, ℕ, ◌+◌, [], Option, None, Ok, Err, Result, false, true, IfOk, IsSome, if◌then◌else◌, refl, subst}
use Rattle.sqlite.specs.Tree.{Trees}
use Rattle.sqlite.specs.Schema.{Schema}
use Rattle.sqlite.specs.State.{State, CommitsShowing}
use Rattle.sqlite.specs.Listing.{if_select, is_select, listing_schema, reads_listing, understood}
use Rattle.sqlite_tied.specs.Compute.{everything}
use Rattle.sqlite_ast.specs.declared.Select.{Select}
use Rattle.sqlite_ast.specs.declared.Statement.TheVariants as written
use Rattle.sqlite_syntax.specs.declared.statement.Parsed.{Parsed}
use Rattle.sqlite_resolve.specs.declared.compiled.Compiled.{Compiled}
use Rattle.sqlite_resolve.specs.declared.error.CompileError.{CompileError}
use Rattle.sqlite_resolve.specs.Compile.{command, compiled, first, meaning, planned, returning, small, timed, with_command}
use Rattle.sqlite_resolve.specs.declared.error.CompileError.TheVariants.{NoSuchTable}
use Rattle.sqlite_resolve.specs.Lowering.{Checked, and_then}
use Rattle.sqlite_schema.specs.declared.command.Command.{Command}
use Rattle.sqlite_schema.specs.declared.command.Returning.{Returning}
use Rattle.sqlite_resolve.specs.Scope.{Name}
use Rattle.store_schema.specs.declared.part.DeskPart.{DeskPart}
use Rattle.store_schema.specs.declared.part.DeskPart.TheVariants.{Desk, Messages, Names, Marks, Verdicts, Parked}
use Rattle.store_opening.specs.Statements.{select_of}

-- the text parses as a SELECT
record IsQuery (text : List ℕ) : Type 0 where
  p : Parsed
  sel : Select
  parsed : first text ≡ Ok p
  statement : p.statement ≡ written.Select sel

abbrev HasNone : Result Compiled CompileError → Type 0
HasNone r = IfOk r (λ c. c.returning ≡ None)

plain : (s : Schema) (p : Parsed) (sel : Select) (base : ℕ) → p.statement ≡ written.Select sel → returning s base p.statement ≡ Ok None
unfolding returning
plain s p sel base is = rw is refl

abbrev Plan : Type 0
Plan = List Name × (Command × Option Returning)

abbrev with_none : Command → Checked (Command × Option Returning)
with_none c = Ok (c, None)

abbrev timed_at : List Name → Command × Option Returning → Checked Plan
timed_at formats found = Ok (formats, found)

none_planned : (s : Schema) (p : Parsed) (sel : Select) → p.statement ≡ written.Select sel → IfOk (planned s p) (λ plan. plan.1.1 ≡ None)
unfolding planned meaning
none_planned s p sel is =
    let formats = timed s p.formats p.statement in
    let base = small p.names + small formats in
    rw (plain s p sel base is) (go formats (command s p.formats base p.statement))
  where
    go : (formats : List Name) (r : Checked Command) → IfOk (and_then (and_then r with_none) (timed_at formats)) (λ plan. plan.1.1 ≡ None)
    go formats (Ok c) = refl
    go formats (Err e) = tt

none_compiled : (s : Schema) (text : List ℕ) → IsQuery text → HasNone (compiled s text)
unfolding compiled
none_compiled s text it = rw it.parsed (go (planned s it.p) (none_planned s it.p it.sel it.statement))
  where
    go : (r : Checked Plan) → IfOk r (λ plan. plan.1.1 ≡ None) → HasNone (and_then r (λ plan. Ok (with_command it.p plan)))
    go (Ok plan) none = none
    go (Err e) none = tt

none_selected : (r : Result Compiled CompileError) → HasNone r → HasNone (if_select r)
none_selected (Ok c) none = elim (is_select c.command) as (λ b. HasNone (if b then Ok c else Err NoSuchTable)) [ true ↦ none | false ↦ tt ]
none_selected (Err e) none = tt

none_understood : (s : Schema) (text : List ℕ) → IsQuery text → HasNone (understood s text)
unfolding understood
none_understood s text it = elim (reads_listing s text) as (λ b. HasNone (if b then if_select (compiled listing_schema text) else compiled s text)) [
  | true ↦ none_selected (compiled listing_schema text) (none_compiled listing_schema text it)
  | false ↦ none_compiled s text it
]

-- ---- the texts

query_of : (p : DeskPart) → IsQuery (select_of p)
unfolding everything
query_of Desk = record { p = _; sel = _; parsed = refl; statement = refl }
query_of Messages = record { p = _; sel = _; parsed = refl; statement = refl }
query_of Names = record { p = _; sel = _; parsed = refl; statement = refl }
query_of Marks = record { p = _; sel = _; parsed = refl; statement = refl }
query_of Verdicts = record { p = _; sel = _; parsed = refl; statement = refl }
query_of Parked = record { p = _; sel = _; parsed = refl; statement = refl }

pub part_commits_none : (p : DeskPart) (s : State) (db : Trees) → CommitsShowing (select_of p) [] s db → ⊥
unfolding CommitsShowing
part_commits_none p s db h =
    let none : h.0.returning ≡ None = subst HasNone h.1.is (none_understood s.now.schema (select_of p) (query_of p)) in
    let wrong = subst IsSome none h.2 in
    absurd cc
