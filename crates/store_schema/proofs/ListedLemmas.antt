-- Two schemas that list the same tables, views and indexes have the same of a desk's tables.
use Rattle.std.proofs.Common.{◌≡◌, ◌==◌, ℕ, List, ap, ◌∙◌, find, slice_get}
use Rattle.std.specs.List.{position_from}
use Rattle.sqlite.specs.Schema.{Schema}
use Rattle.sqlite.specs.Table.{Table}
use Rattle.sqlite_schema.specs.Names.{same_name, table_named}
use Rattle.store_tables.specs.Stored.{Finds, IsListedAs, IsUnused, tree_of}
use Rattle.store_schema.specs.declared.part.DeskPart.{DeskPart}
use Rattle.store_schema.specs.declared.part.DeskPart.TheVariants.{Desk, Messages, Names, Marks, Verdicts, Parked}
use Rattle.store_schema.specs.Parts.{part_name}
use Rattle.store_schema.specs.Shapes.{FindsPart, HasCommon, IsOld, IsVacant, Lacks}

module _ (s u : Schema) (listed : IsListedAs s u) where
  table_as : (name : List ℕ) → table_named u name ≡ table_named s name
  table_as name = ap (position_from (λ (t : Table). same_name t.name name) 0) listed.tables

  pub unused_as : (name : List ℕ) → IsUnused s name → IsUnused u name
  unused_as name free = record { table = table_as name ∙ free.table; view = listed.views name ∙ free.view; index = listed.indexes name ∙ free.index }

  pub tree_as : (name : List ℕ) → tree_of u name ≡ tree_of s name
  tree_as name = ap (λ (ts : List Table). tree_of (record s { tables = ts }) name) listed.tables

  pub finds_as : (name : List ℕ) (at : ℕ) (t : Table) → Finds s name at t → Finds u name at t
  finds_as name at t found = record {
    named = table_as name ∙ found.named;
    has = ap (λ (ts : List Table). slice_get ts at) listed.tables ∙ found.has;
    stored = found.stored;
    by_tree = ap (λ (ts : List Table). find (λ (x : Table). x.tree == t.tree) ts) listed.tables ∙ found.by_tree;
  }

  part_as : (p : DeskPart) → FindsPart s p → FindsPart u p
  part_as p it = record { at = it.at; table = it.table; finds = finds_as (part_name p) it.at it.table it.finds; is = it.is }

  lacks_as : (p : DeskPart) → Lacks s p → Lacks u p
  lacks_as p lacks = unused_as (part_name p) lacks

  pub vacant_as : IsVacant s → IsVacant u
  vacant_as is = record {
    desk = lacks_as Desk is.desk;
    messages = lacks_as Messages is.messages;
    names = lacks_as Names is.names;
    marks = lacks_as Marks is.marks;
    verdicts = lacks_as Verdicts is.verdicts;
    parked = lacks_as Parked is.parked;
  }

  common_as : HasCommon s → HasCommon u
  common_as has = record {
    desk = part_as Desk has.desk;
    messages = part_as Messages has.messages;
    names = part_as Names has.names;
    parked = part_as Parked has.parked;
  }

  pub old_as : IsOld s → IsOld u
  old_as is = record { common = common_as is.common; verdicts = lacks_as Verdicts is.verdicts; marks = part_as Marks is.marks }
