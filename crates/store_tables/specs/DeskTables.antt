-- The five tables of a desk in a database, as a schema lists them (schema 2).
use Rattle.std.specs.Prelude.{Bool, true, false, [], ◌∷◌, Some, None, codes, List, ℕ}
use Rattle.sqlite.specs.Collation.TheVariants.{Binary}
use Rattle.sqlite.specs.Kind.TheVariants.{Integer, Text}
use Rattle.sqlite.specs.Table.{Table}
use Rattle.sqlite.specs.declared.types.Value.TheVariants.{Null}
use Rattle.sqlite_schema.specs.declared.schema.Column.{Column}
use Rattle.sqlite_schema.specs.declared.schema.Kind.{Kind}

-- a column of a STRICT table, with no default
abbrev pub column_of : List ℕ → Kind → Bool → Column
column_of name kind not_null = record {
  name = name;
  kind = kind;
  is_strict = true;
  not_null = not_null;
  default = Null;
  collation = Binary;
}

-- CREATE TABLE desk (id INTEGER PRIMARY KEY, schema INTEGER NOT NULL, roster TEXT NOT NULL) STRICT
abbrev pub desk : Table
desk = record {
  name = codes "desk";
  tree = 0;
  columns = (column_of (codes "id") Integer false) ∷ (column_of (codes "schema") Integer true)
      ∷ (column_of (codes "roster") Text true) ∷ [];
  key = Some 0;
  primary = 0 ∷ [];
  uniques = [];
  orders = [];
  checks = [];
  references = [];
  computed = [];
  stamps = record { places = []; terms = []; formats = [] };
  is_counted = false;
}

-- CREATE TABLE messages (body TEXT PRIMARY KEY NOT NULL) STRICT
abbrev pub messages : Table
messages = record {
  name = codes "messages";
  tree = 1;
  columns = (column_of (codes "body") Text true) ∷ [];
  key = None;
  primary = 1 ∷ [];
  uniques = (1 ∷ []) ∷ [];
  orders = (record { digits = 0 }) ∷ [];
  checks = [];
  references = [];
  computed = [];
  stamps = record { places = []; terms = []; formats = [] };
  is_counted = false;
}

-- a table with a unique key over these columns, and with no checks or references
abbrev pub keyed : List ℕ → List Column → List ℕ → Table
keyed name columns key = record {
  name = name;
  tree = 0;
  columns = columns;
  key = None;
  primary = key;
  uniques = key ∷ [];
  orders = (record { digits = 0 }) ∷ [];
  checks = [];
  references = [];
  computed = [];
  stamps = record { places = []; terms = []; formats = [] };
  is_counted = false;
}

-- CREATE TABLE names (asker TEXT NOT NULL, no INTEGER NOT NULL, body TEXT NOT NULL, disputed
-- INTEGER NOT NULL, PRIMARY KEY (asker, no)) STRICT
abbrev pub names : Table
names = keyed (codes "names") ((column_of (codes "asker") Text true)
    ∷ (column_of (codes "no") Integer true) ∷ (column_of (codes "body") Text true)
    ∷ (column_of (codes "disputed") Integer true) ∷ []) (1 ∷ 2 ∷ [])

-- CREATE TABLE verdicts (asker TEXT NOT NULL, no INTEGER NOT NULL, person TEXT NOT NULL, kind TEXT
-- NOT NULL, at INTEGER NOT NULL, PRIMARY KEY (asker, no, person, kind, at)) STRICT
abbrev pub verdicts : Table
verdicts = keyed (codes "verdicts")
    ((column_of (codes "asker") Text true) ∷ (column_of (codes "no") Integer true)
    ∷ (column_of (codes "person") Text true) ∷ (column_of (codes "kind") Text true)
    ∷ (column_of (codes "at") Integer true) ∷ []) (1 ∷ 2 ∷ 3 ∷ 4 ∷ 5 ∷ [])

-- CREATE TABLE parked (body TEXT PRIMARY KEY NOT NULL, asker TEXT NOT NULL, no INTEGER NOT NULL)
-- STRICT
abbrev pub parked : Table
parked = keyed (codes "parked") ((column_of (codes "body") Text true)
    ∷ (column_of (codes "asker") Text true) ∷ (column_of (codes "no") Integer true) ∷ []) (1 ∷ [])

-- each of the five tables, with its rows in this tree of the file
abbrev pub desk_at : ℕ → Table
desk_at tree = record desk { tree = tree }

abbrev pub messages_at : ℕ → Table
messages_at tree = record messages { tree = tree }

abbrev pub names_at : ℕ → Table
names_at tree = record names { tree = tree }

abbrev pub verdicts_at : ℕ → Table
verdicts_at tree = record verdicts { tree = tree }

abbrev pub parked_at : ℕ → Table
parked_at tree = record parked { tree = tree }
