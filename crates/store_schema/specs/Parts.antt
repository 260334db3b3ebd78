-- The tables of a desk, each by its part.
use Rattle.std.specs.Prelude.{◌≡◌, [], ◌∷◌, codes, map, List, ℕ}
use Rattle.sqlite.specs.Table.{Table}
use Rattle.sqlite_schema.specs.declared.schema.Column.{Column}
use Rattle.store_tables.specs.DeskTables.{desk, verdicts, keyed}
use Rattle.store_tables.specs.DeskTables.{desk_at, messages_at, names_at, verdicts_at, parked_at}
use Rattle.store_schema.specs.declared.part.DeskPart.{DeskPart}
use Rattle.store_schema.specs.declared.part.DeskPart.TheVariants.{Desk, Messages, Names}
use Rattle.store_schema.specs.declared.part.DeskPart.TheVariants.{Marks, Verdicts, Parked}

-- The table of an older desk, which kept one moment for each person and kind. CREATE TABLE marks
-- (asker TEXT NOT NULL, no INTEGER NOT NULL, person TEXT NOT NULL, kind TEXT NOT NULL, at INTEGER
-- NOT NULL, PRIMARY KEY (asker, no, person, kind)) STRICT
abbrev pub marks : Table
marks = keyed (codes "marks") verdicts.columns (1 ∷ 2 ∷ 3 ∷ 4 ∷ [])

abbrev pub marks_at : ℕ → Table
marks_at tree = record marks { tree = tree }

-- a table whose key is its rowid
abbrev pub framed : List ℕ → List Column → Table
framed name columns = record desk { name = name; columns = columns }

abbrev pub part_name : DeskPart → List ℕ
part_name Desk = codes "desk"
part_name Messages = codes "messages"
part_name Names = codes "names"
part_name Marks = codes "marks"
part_name Verdicts = codes "verdicts"
part_name Parked = codes "parked"

-- the table of the part as a desk makes it, with its rows in this tree of the file
abbrev pub table_at : DeskPart → ℕ → Table
table_at Desk = desk_at
table_at Messages = messages_at
table_at Names = names_at
table_at Marks = marks_at
table_at Verdicts = verdicts_at
table_at Parked = parked_at

-- the names of these columns, in their order
abbrev pub names_of : List Column → List (List ℕ)
names_of columns = map (λ (column : Column). column.name) columns

-- The table is the part's, whatever its tree. Each must be as a desk makes it, except `marks`: no
-- row of `marks` is ever read, so its columns count by their names alone, and not by their types,
-- and neither do its keys.
abbrev pub IsPart : DeskPart → Table → Type 0
IsPart Desk t = t ≡ desk_at t.tree
IsPart Messages t = t ≡ messages_at t.tree
IsPart Names t = t ≡ names_at t.tree
IsPart Marks t = (t.name ≡ marks.name) × (names_of t.columns ≡ names_of marks.columns)
IsPart Verdicts t = t ≡ verdicts_at t.tree
IsPart Parked t = t ≡ parked_at t.tree
