-- The names that messages ask under, in order.
use Rattle.std.specs.Prelude.{◌≡◌, ⊤, ℕ, ℤ, pos, Bool, false, not, ◌&&◌, ◌||◌}
use Rattle.std.specs.Prelude.{List, [], ◌∷◌, Option, Some, None, Contains}
use Rattle.std.specs.List.{list_any}
use Rattle.std.specs.List.Sorted.{IsSorted}
use Rattle.std.specs.Str.{bytes_eq}
use Rattle.std.specs.Cmp.Lexicographic.{slice_cmp}
use Rattle.std.specs.Ordering.{int_cmp, int_eq, nat_cmp, ordering_then}
use Rattle.std.specs.declared.cmp.Ordering.{Ordering}
use Rattle.sqlite.specs.declared.types.Value.{Value}
use Rattle.sqlite.specs.declared.types.Value.TheVariants.{Null, Int, Real, Text, Blob}
use Rattle.sqlite.specs.Order.{Row, column}
use Rattle.messages.specs.Fields.{RequestFields}
use Rattle.messages.specs.Wire.{wire}
use Rattle.messages.specs.declared.message.Message.{Message}
use Rattle.messages.specs.declared.message.Message.TheVariants.{Request, Verdict}
use Rattle.store_opening.specs.declared.names.Asked.{Asked}
use Rattle.store_opening.specs.declared.names.NameKey.{NameKey}
use Rattle.store_opening.specs.private.Compare.{asks, is_disputed}

-- ---- names, and texts beside them

-- by who asked, then by the number
abbrev pub name_cmp : NameKey → NameKey → Ordering
name_cmp x y = ordering_then (slice_cmp nat_cmp x.by.now y.by.now) (int_cmp x.number y.number)

-- by the name, then by the text
abbrev pub asked_cmp : Asked → Asked → Ordering
asked_cmp x y = ordering_then (name_cmp x.name y.name) (slice_cmp nat_cmp x.text.now y.text.now)

-- it is the name
abbrev pub is_at : List ℕ → ℤ → NameKey → Bool
is_at asker number n = bytes_eq n.by.now asker && int_eq n.number number

abbrev pub has_name : List ℕ → ℤ → Asked → Bool
has_name asker number a = is_at asker number a.name

abbrev pub differ : Asked → Asked → Bool
differ a b = is_at a.name.by.now a.name.number b.name && not (bytes_eq a.text.now b.text.now)

-- two neighbours have the name, and different texts
abbrev pub differs : List ℕ → ℤ → List Asked → Bool
differs asker number [] = false
differs asker number (a ∷ []) = false
differs asker number (a ∷ b ∷ rest) =
    (has_name asker number a && differ a b) || differs asker number (b ∷ rest)

-- two neighbours are the same name
abbrev pub repeats : List NameKey → Bool
repeats [] = false
repeats (a ∷ []) = false
repeats (a ∷ b ∷ rest) = is_at a.by.now a.number b || repeats (b ∷ rest)

-- ---- what messages and rows say

-- the name and the text of the request
pub record IsFrom (q : RequestFields) (a : Asked) : Type 0 where
  pub by : a.name.by.now ≡ q.by
  pub number : a.name.number ≡ pos q.no
  pub text : a.text.now ≡ wire (Request q)

-- what a message tells: its name and its text, where it is a request
abbrev pub IsTold : Message → Option Asked → Type 0
IsTold (Request q) (Some a) = IsFrom q a
IsTold (Request q) None = ⊥
IsTold (Verdict v) (Some a) = ⊥
IsTold (Verdict v) None = ⊤

-- they are the names and the texts of the requests
pub record AreAsked (messages : List Message) (asked : List Asked) : Type 0 where
  pub each : (a : Asked) → Contains asked a
      → (q : RequestFields) × Contains messages (Request q) × IsFrom q a
  pub all : (q : RequestFields) → Contains messages (Request q)
      → (a : Asked) × Contains asked a × IsFrom q a

-- the names that have a request, and those that have two, each list in order for a binary search
pub record IsIndex (messages : List Message) (names disputed : List NameKey) : Type 0 where
  pub names_rise : IsSorted name_cmp names
  pub disputed_rise : IsSorted name_cmp disputed
  pub asks : (asker : List ℕ) (number : ℕ)
      → list_any (is_at asker (pos number)) names ≡ asks messages asker number
  pub disputes : (q : RequestFields) → Contains messages (Request q)
      → list_any (is_at q.by (pos q.no)) disputed ≡ is_disputed messages (Request q)

-- the text of a value, or none
abbrev pub text_in : Value → List ℕ
text_in Null = []
text_in (Int n) = []
text_in (Real x) = []
text_in (Text t) = t
text_in (Blob b) = []

-- the number of a value, or 0
abbrev pub number_in : Value → ℤ
number_in Null = pos 0
number_in (Int n) = n
number_in (Real x) = pos 0
number_in (Text t) = pos 0
number_in (Blob b) = pos 0

-- the row is of the name
abbrev pub name_is : List ℕ → ℤ → Row → Bool
name_is asker number r =
    bytes_eq (text_in (column r 1)) asker && int_eq (number_in (column r 2)) number

-- the row has the rowid, as a name with no bytes
abbrev pub id_is : List ℕ → ℤ → Row → Bool
id_is asker number r = bytes_eq [] asker && int_eq (number_in (column r 0)) number

-- a name alone
abbrev pub name_of : Asked → NameKey
name_of a = a.name
