-- What the statements that make a desk do to a database that has tables of other names.
use Rattle.std.proofs.Common.{◌≡◌, ◌<◌, ◌^◌, ◌++◌, ◌∷◌, ◌||◌, ◌&&◌, not, ℕ, Bool, List, [], codes, true, false}
use Rattle.std.proofs.Common.{Option, None, Some, is_some, slice_get, Ok, refl, sym, ap, subst, ◌∙◌, arith}
use Rattle.std.specs.List.{list_any, filter, AllZip}
use Rattle.std.proofs.lemmas.Bool.{lt-leb}
use Rattle.std.proofs.lemmas.List.Folds.{list_any-append}
use Rattle.sqlite.specs.Order.{Row}
use Rattle.sqlite.specs.Table.{Table}
use Rattle.sqlite.specs.Schema.{Schema}
use Rattle.sqlite.specs.Command.TheVariants.{CreateTable}
use Rattle.sqlite.specs.Compile.{table_defined_by}
use Rattle.sqlite.specs.Change.{created, next_tree, KeepsRows}
use Rattle.sqlite.specs.Does.{Tally, lacks_sequence}
use Rattle.sqlite.specs.Rows.{sequence}
use Rattle.sqlite.specs.Listing.{understood}
use Rattle.sqlite.specs.Effect.{Database, IsDatabase}
use Rattle.sqlite.specs.State.{State, Writes, Executes}
use Rattle.sqlite.proofs.Callers.{IsPlain, command_of, statement_of, runs_as}
use Rattle.sqlite_catalog.specs.Listing.{IsTableRow, is_table_row}
use Rattle.sqlite_trees.specs.Objects.{catalog_tree}
use Rattle.sqlite_schema.specs.Names.{same_name, table_named}
use Rattle.store_schema.specs.Founding.{Adds}
use Rattle.store_tables.proofs.Steps.{went, same_value}
use Rattle.store_schema.proofs.Grown.{get_kept, position_kept}

-- ---- the counts of AUTOINCREMENT

counts_still : (s : Schema) (u : Table) → is_some (sequence s) ≡ true → is_some (sequence (created s u)) ≡ true
counts_still s u there = go (table_named s (codes "sqlite_sequence")) refl
  where
    found : (at : ℕ) → table_named s (codes "sqlite_sequence") ≡ Some at → (o : Option Table)
        → slice_get s.tables at ≡ o → is_some (sequence (created s u)) ≡ true
    found at named None is = absurd (let e = rw (named, is) at there in cc)
    found at named (Some t) is =
        let new : Table = record u { tree = next_tree s } in
        let named' : table_named (created s u) (codes "sqlite_sequence") ≡ Some at =
        position_kept (λ (v : Table). same_name v.name (codes "sqlite_sequence")) 0 at s.tables (new ∷ []) named in
        rw (named', get_kept t s.tables (new ∷ []) at is) refl

    go : (o : Option ℕ) → table_named s (codes "sqlite_sequence") ≡ o → is_some (sequence (created s u)) ≡ true
    go None named = absurd (let e = rw named at there in cc)
    go (Some at) named = found at named (slice_get s.tables at) refl

-- a table that does not count leaves no count without its table
pub none_lacking : (s : Schema) (u : Table) → u.is_counted ≡ false → lacks_sequence s ≡ false → lacks_sequence (created s u) ≡ false
none_lacking s u uncounted none = go (list_any (λ (t : Table). t.is_counted) s.tables) refl (is_some (sequence s)) refl
  where
    new : Table
    new = record u { tree = next_tree s }

    counted : list_any (λ (t : Table). t.is_counted) (s.tables ++ new ∷ []) ≡ (list_any (λ (t : Table). t.is_counted) s.tables || (u.is_counted || false))
    counted = list_any-append (λ (t : Table). t.is_counted) s.tables (new ∷ [])

    and-false : (b : Bool) → (b && not true) ≡ false
    and-false true = refl
    and-false false = refl

    go : (a : Bool) → list_any (λ (t : Table). t.is_counted) s.tables ≡ a → (b : Bool) → is_some (sequence s) ≡ b → lacks_sequence (created s u) ≡ false
    go false any b is = rw (counted, any, uncounted) refl
    go true any true is = rw (counts_still s u is) (and-false (list_any (λ (t : Table). t.is_counted) (s.tables ++ new ∷ [])))
    go true any false is = absurd (let e = rw (any, is) at none in cc)

-- ---- a CREATE

-- a table that the catalog lists last has a tree that is stored
last_low : (rows : List Row) (ts : List Table) (t : Table) → AllZip IsTableRow rows (ts ++ t ∷ []) → t.tree < 65536
last_low [] [] t h = absurd h
last_low [] (x ∷ ts) t h = absurd h
last_low (r ∷ rs) [] t h = h.0.described.low
last_low (r ∷ rs) (x ∷ ts) t h = last_low rs ts t h.1

listed_low : (db : Database) (ts : List Table) (t : Table) → IsDatabase db → db.schema.tables ≡ ts ++ t ∷ [] → t.tree < 65536
listed_low db ts t sound is =
    let rows = filter is_table_row (db.trees catalog_tree) in
    last_low rows ts t (subst (λ us. AllZip IsTableRow rows us) is sound.lists.listed.tables)

pub adds : (sql : List ℕ) (table : Table) (old new : State) (count : ℕ) → (command_of (understood old.now.schema sql) ≡ CreateTable)
    × (statement_of sql (understood old.now.schema sql) ≡ sql) × IsPlain (understood old.now.schema sql) → table_defined_by sql ≡ Ok table
    → table.is_counted ≡ false → lacks_sequence old.now.schema ≡ false → Executes sql [] old new (Ok count) → Adds table old.now new.now
adds sql table old new count means defined uncounted none h =
    let before = old.now.schema in
    let w = subst (λ t. Writes old new None CreateTable t [] count) means.1 (runs_as sql [] old new before refl CreateTable means.0 means.2 count h) in
    let all = went w.changed in
    let first = went all.1 in
    let made = first.1 in
    let both : Ok made.table ≡ Ok table = sym made.defined ∙ defined in
    let same : made.table ≡ table = cc in
    let schema : first.0.schema ≡ created before table = made.is ∙ ap (created before) same in
    let plain : lacks_sequence first.0.schema ≡ false = ap lacks_sequence schema ∙ none_lacking before table uncounted none in
    let now : new.now ≡ first.0 = ap (λ (p : Tally × Database). p.1) (same_value all.2) ∙ same_value (rw plain at first.2) in
    let whole : new.now.schema ≡ created before table = ap (λ (d : Database). d.schema) now ∙ schema in
    let last : Table = record table { tree = next_tree before } in
    let low : next_tree before < 65536 = listed_low new.now before.tables last w.sound (ap (λ (s : Schema). s.tables) whole) in
    record {
      schema = whole;
      stored = lt-leb (2 ^ 31) (next_tree before) (omega (arith, low));
      empty = ap (λ (d : Database). d.trees (next_tree before)) now ∙ made.empty;
      others = subst (λ (d : Database). KeepsRows before.tables old.now.trees d.trees) (sym now) made.others;
    }
