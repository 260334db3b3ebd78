-- What a database holds of a desk, beside any tables of other names.
use Rattle.std.specs.Prelude.{◌≡◌, ◌==◌, ◌^◌, ◌≤◌, ◌&&◌, not, nat_le, cond, true, false}
use Rattle.std.specs.Prelude.{Bool, ℕ, pos, List, [], ◌∷◌, ◌++◌, length, Option, Some, None}
use Rattle.std.specs.Prelude.{option_map, option_and_then, unwrap_or, slice_get, find, codes}
use Rattle.std.specs.Ordering.{nat_cmp, int_eq}
use Rattle.std.specs.Cmp.Lexicographic.{slice_cmp}
use Rattle.std.specs.FinSet as set
use Rattle.sqlite.specs.declared.types.Value.{Value}
use Rattle.sqlite.specs.declared.types.Value.TheVariants.{Null, Int, Real, Text, Blob}
use Rattle.sqlite.specs.Order.{Row, column}
use Rattle.sqlite.specs.Schema.{Schema}
use Rattle.sqlite.specs.Table.{Table}
use Rattle.sqlite.specs.Tree.{Trees}
use Rattle.sqlite.specs.Effect.{Database}
use Rattle.sqlite_schema.specs.Names.{same_name, table_named, view_named, index_named}
use Rattle.sqlite_schema.specs.declared.schema.Reference.{Reference}
use Rattle.messages.specs.Wire.{wire, IsMessage}
use Rattle.messages.specs.declared.message.Message.{Message}
use Rattle.std.specs.List.{list_any}
use Rattle.store_tables.specs.DeskTables.{desk_at, messages_at, names_at, verdicts_at, parked_at}

-- ---- the tables, found by name

-- The schema finds the table by its name, in either case of the letters, and the tree is that
-- table's. (Trees from 2 ^ 31 on are never stored.)
pub record Finds (s : Schema) (name : List ℕ) (at : ℕ) (t : Table) : Type 0 where
  pub named : table_named s name ≡ Some at
  pub has : slice_get s.tables at ≡ Some t
  pub stored : nat_le (2 ^ 31) t.tree ≡ false
  pub by_tree : find (λ (u : Table). u.tree == t.tree) s.tables ≡ Some t

-- the tree of the table with this name
abbrev pub tree_of : Schema → List ℕ → ℕ
tree_of s name = unwrap_or (option_map (λ (t : Table). t.tree)
    (option_and_then (slice_get s.tables) (table_named s name))) 0

-- the table has this tree
abbrev pub is_in : Option Table → ℕ → Bool
is_in None tree = false
is_in (Some t) tree = t.tree == tree

-- the table that a foreign key names as its parent
abbrev pub parent_of : List Table → Reference → Option Table
parent_of tables ref = find (λ (t : Table). same_name t.name ref.parent) tables

-- a foreign key of some table refers to the table of this tree
abbrev pub is_referred : Schema → ℕ → Bool
is_referred s tree =
    list_any (λ (t : Table). list_any (λ ref. is_in (parent_of s.tables ref) tree) t.references)
    s.tables

-- no foreign key of any table refers to the table of this tree
abbrev pub IsUnreferred : Schema → ℕ → Type 0
IsUnreferred s tree = is_referred s tree ≡ false

-- the schema has a desk's five tables, beside any others, and no foreign key refers to those that
-- lose rows
pub record HasDesk (s : Schema) : Type 0 where
  pub d : ℕ
  pub m : ℕ
  pub n : ℕ
  pub v : ℕ
  pub p : ℕ
  pub desk : Finds s (codes "desk") d (desk_at (tree_of s (codes "desk")))
  pub messages : Finds s (codes "messages") m (messages_at (tree_of s (codes "messages")))
  pub names : Finds s (codes "names") n (names_at (tree_of s (codes "names")))
  pub verdicts : Finds s (codes "verdicts") v (verdicts_at (tree_of s (codes "verdicts")))
  pub parked : Finds s (codes "parked") p (parked_at (tree_of s (codes "parked")))
  pub desk_alone : IsUnreferred s (tree_of s (codes "desk"))
  pub names_alone : IsUnreferred s (tree_of s (codes "names"))
  pub verdicts_alone : IsUnreferred s (tree_of s (codes "verdicts"))
  pub parked_alone : IsUnreferred s (tree_of s (codes "parked"))

-- The second schema has the tables of the first, and finds views and indexes by the same names as
-- the first.
pub record IsListedAs (s u : Schema) : Type 0 where
  pub tables : u.tables ≡ s.tables
  pub views : (name : List ℕ) → view_named u name ≡ view_named s name
  pub indexes : (name : List ℕ) → index_named u name ≡ index_named s name

-- no table, view or index has the name, in either case of its letters
pub record IsUnused (s : Schema) (name : List ℕ) : Type 0 where
  pub table : table_named s name ≡ None
  pub view : view_named s name ≡ None
  pub index : index_named s name ≡ None

-- ---- the rows

abbrev pub text_in : Value → List (List ℕ)
text_in Null = []
text_in (Int n) = []
text_in (Real x) = []
text_in (Text t) = t ∷ []
text_in (Blob b) = []

-- the texts of the bodies
abbrev pub bodies : List Row → List (List ℕ)
bodies [] = []
bodies (r ∷ rs) = text_in (column r 1) ++ bodies rs

abbrev pub is_text : Value → Bool
is_text Null = false
is_text (Int n) = false
is_text (Real x) = false
is_text (Text t) = true
is_text (Blob b) = false

abbrev pub is_one : Value → Bool
is_one Null = false
is_one (Int n) = int_eq n (pos 1)
is_one (Real x) = false
is_one (Text t) = false
is_one (Blob b) = false

abbrev pub is_two : Value → Bool
is_two Null = false
is_two (Int n) = int_eq n (pos 2)
is_two (Real x) = false
is_two (Text t) = false
is_two (Blob b) = false

abbrev pub text_at : Value → Option (List ℕ)
text_at Null = None
text_at (Int n) = None
text_at (Real x) = None
text_at (Text t) = Some t
text_at (Blob b) = None

-- the roster's text, if the id is 1 and the schema is the one that is asked for
abbrev pub mark : (is_schema : Value → Bool) → Value → Value → Value → Option (List ℕ)
mark is_schema id schema roster = cond (is_one id && is_schema schema) (text_at roster) None

-- the roster's text, if there is exactly one row, and it has the id 1 and that schema
abbrev pub recorded_with : (is_schema : Value → Bool) → List Row → Option (List ℕ)
recorded_with is_schema [] = None
recorded_with is_schema (r ∷ []) = mark is_schema (column r 0) (column r 2) (column r 3)
recorded_with is_schema (r ∷ s ∷ rs) = None

-- the roster's text of a desk of today, whose schema is 2
abbrev pub recorded : List Row → Option (List ℕ)
recorded = recorded_with is_two

-- the roster's text of a desk of an older form, whose schema is 1
abbrev pub recorded_before : List Row → Option (List ℕ)
recorded_before = recorded_with is_one

-- ---- the desk

abbrev pub Texts : Type 0
Texts = set.FinSet (slice_cmp nat_cmp)

abbrev pub row_texts : List Row → Texts
row_texts rows = set.from_list (bodies rows)

-- a desk's roster text, and the set of its messages' texts: the rows of the other three tables
-- follow from these
pub record Content : Type 0 where
  pub roster : List ℕ
  pub texts : Texts

-- the roster's text of a desk of either form
abbrev pub roster_of : List Row → List ℕ
roster_of rows = unwrap_or (recorded rows) (unwrap_or (recorded_before rows) [])

abbrev pub content_in : Schema → Trees → Content
content_in s db = record {
  roster = roster_of (db (tree_of s (codes "desk")));
  texts = row_texts (db (tree_of s (codes "messages")));
}

abbrev pub content_of : Database → Content
content_of db = content_in db.schema db.trees

abbrev pub with_text : List ℕ → Content → Content
with_text text c = record { roster = c.roster; texts = set.insert c.texts text }

abbrev pub with_roster : List ℕ → Content → Content
with_roster roster c = record { roster = roster; texts = c.texts }

abbrev pub has : Content → List ℕ → Bool
has c text = set.contains c.texts text

-- the text of a message that is short enough to be read: of at most 16,384 bytes
abbrev pub IsWritten : List ℕ → Type 0
IsWritten text = (m : Message) × IsMessage m × (text ≡ wire m) × (length text ≤ 16_384)

-- The body is not a text.
abbrev pub is_stray : Row → Bool
is_stray r = not (is_text (column r 1))

-- The database keeps no part of a desk: the names of a desk's tables are unused.
pub record IsFree (s : Schema) : Type 0 where
  pub desk : IsUnused s (codes "desk")
  pub messages : IsUnused s (codes "messages")
  pub names : IsUnused s (codes "names")
  pub verdicts : IsUnused s (codes "verdicts")
  pub parked : IsUnused s (codes "parked")
