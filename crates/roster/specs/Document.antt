-- How a TOML document says what a roster says: its keys, and the type of each value (TOML 1.1).
use Rattle.std.specs.Prelude.{ℕ, zero, suc, ◌+◌, ℤ, pos, negsuc, List, [], ◌∷◌, Option}
use Rattle.std.specs.Prelude.{Some, None, Bool, true, if◌then◌else◌, codes, ◌&&◌, ◌||◌}
use Rattle.std.specs.Str.{bytes_eq}
use Rattle.toml.specs.Data.{Data, array, table, as_str, as_integer, Items, no_items}
use Rattle.toml.specs.Data.{item, Members, no_members, member, get_member}
use Rattle.sudo_words.specs.Moment.{date_text}
use Rattle.roster.specs.Fields.{CeilingFields, Entry, RosterFields}
use Rattle.roster.specs.declared.days.Days.TheVariants.{Always, Between}

-- the second step is applied to what the first gives, if it gives something
infixl 10 ◌>>=◌
abbrev pub ◌>>=◌ : {A B : Type 0} → Option A → (A → Option B) → Option B
(Some x) >>= f = f x
None >>= f = None

-- ---- values by their types

-- what each item is read as, if every item can be read
abbrev pub each_item : {X : Type 0} → (Data → Option X) → Items → Option (List X)
each_item f no_items = Some []
each_item f (item d ds) = do
  x ← f d
  xs ← each_item f ds
  Some (x ∷ xs)

-- each key with what its value is read as, if every value can be read
abbrev pub each_member : {X : Type 0} → (Data → Option X) → Members → Option (List (List ℕ × X))
each_member f no_members = Some []
each_member f (member k d ms) = do
  x ← f d
  xs ← each_member f ms
  Some ((k, x) ∷ xs)

-- a list of texts
abbrev pub texts_of : Data → Option (List (List ℕ))
texts_of (array ds) = each_item as_str ds
texts_of _ = None

-- exactly two texts
abbrev pub as_pair : List (List ℕ) → Option (List ℕ × List ℕ)
as_pair (a ∷ b ∷ []) = Some (a, b)
as_pair _ = None

abbrev pub pair_of : Data → Option (List ℕ × List ℕ)
pair_of d = texts_of d >>= as_pair

-- a list of pairs of texts
abbrev pub pairs_of : Data → Option (List (List ℕ × List ℕ))
pairs_of (array ds) = each_item pair_of ds
pairs_of _ = None

-- a whole number; each one below 0 counts as 0, which is out of range for every number of a roster
abbrev pub at_least_zero : ℤ → ℕ
at_least_zero (pos n) = n
at_least_zero (negsuc n) = 0

abbrev pub number_of : Data → Option ℕ
number_of d = as_integer d >>= λ z. Some (at_least_zero z)

-- ---- days

-- of the `later` days from this one on, the one whose date the text is, or the day after them if
-- the text is not the date of any of them
unfoldable pub day_from : (later day : ℕ) → List ℕ → ℕ
day_from zero day text = day
day_from (suc later) day text =
    if bytes_eq (date_text day) text then day else day_from later (day + 1) text

-- The day from 1970-01-01 to 2099-12-31 whose date the text is, `yyyymmdd`. Any other text counts
-- as the day after these, which no entry of a roster has.
unfoldable pub day_spelled : List ℕ → ℕ
day_spelled text = day_from 47_482 0 text

abbrev pub day_in : Data → Option ℕ
day_in d = as_str d >>= λ text. Some (day_spelled text)

-- ---- keys

-- each key passes
abbrev pub each_key : (List ℕ → Bool) → Members → Bool
each_key test no_members = true
each_key test (member k d ms) = test k && each_key test ms

-- each value passes
abbrev pub each_value : (Data → Bool) → Members → Bool
each_value test no_members = true
each_value test (member k d ms) = test d && each_value test ms

-- each item passes
abbrev pub each_one : (Data → Bool) → Items → Bool
each_one test no_items = true
each_one test (item d ds) = test d && each_one test ds

-- the keys of a ceiling
abbrev pub is_ceiling_key : List ℕ → Bool
is_ceiling_key k =
    bytes_eq k (codes "ask") || bytes_eq k (codes "approve")
    || bytes_eq k (codes "needs") || bytes_eq k (codes "hosts")
    || bytes_eq k (codes "runas") || bytes_eq k (codes "commands") || bytes_eq k (codes "longest")

-- a value that is not a table has no keys
abbrev pub has_ceiling_keys : Data → Bool
has_ceiling_keys (table ms) = each_key is_ceiling_key ms
has_ceiling_keys _ = true

abbrev pub have_ceiling_keys : Option Data → Bool
have_ceiling_keys (Some (table ms)) = each_value has_ceiling_keys ms
have_ceiling_keys _ = true

-- the keys of an entry that is a table
abbrev pub is_entry_key : List ℕ → Bool
is_entry_key k =
    bytes_eq k (codes "duty") || bytes_eq k (codes "from") || bytes_eq k (codes "until")

abbrev pub has_entry_keys : Data → Bool
has_entry_keys (table ms) = each_key is_entry_key ms
has_entry_keys _ = true

-- each entry of a person has only such keys; and so has each entry of every person
abbrev pub have_entry_keys : Data → Bool
have_entry_keys (array ds) = each_one has_entry_keys ds
have_entry_keys _ = true

abbrev pub people_have_entry_keys : Option Data → Bool
people_have_entry_keys (Some (table ms)) = each_value have_entry_keys ms
people_have_entry_keys _ = true

-- the keys of a roster
abbrev pub is_roster_key : List ℕ → Bool
is_roster_key k =
    bytes_eq k (codes "relays") || bytes_eq k (codes "hosts")
    || bytes_eq k (codes "duties") || bytes_eq k (codes "conflicts")
    || bytes_eq k (codes "people") || bytes_eq k (codes "ceilings")

-- the document has only keys of a roster, each ceiling only keys of a ceiling, and each entry only
-- keys of an entry
unfoldable pub has_known_keys : Members → Bool
has_known_keys ms =
    each_key is_roster_key ms && have_ceiling_keys (get_member (codes "ceilings") ms)
    && people_have_entry_keys (get_member (codes "people") ms)

-- ---- what a document says

-- what the value of a key is read as
abbrev pub member_of : {X : Type 0} → (Data → Option X) → List ℕ → Members → Option X
member_of f key ms = get_member key ms >>= f

-- An entry is a duty's label, if the duty is always held, or a table of a duty and the first and
-- the last day on which it is held.
unfoldable pub duty_entry : Data → Option Entry
duty_entry (table ms) = do
  duty ← member_of as_str (codes "duty") ms
  from ← member_of day_in (codes "from") ms
  until ← member_of day_in (codes "until") ms
  Some (duty, Between from until)
duty_entry d = as_str d >>= λ duty. Some (duty, Always)

-- a list of entries
abbrev pub duty_entries : Data → Option (List Entry)
duty_entries (array ds) = each_item duty_entry ds
duty_entries _ = None

-- a table of such lists
abbrev pub people_of : Data → Option (List (List ℕ × List Entry))
people_of (table ms) = each_member duty_entries ms
people_of _ = None

-- what a ceiling says, where no key is missing and each value has its type
unfoldable pub ceiling_of : Data → Option (CeilingFields (List ℕ))
ceiling_of (table ms) = do
  ask ← member_of as_str (codes "ask") ms
  approve ← member_of as_str (codes "approve") ms
  needs ← member_of number_of (codes "needs") ms
  hosts ← member_of texts_of (codes "hosts") ms
  runas ← member_of texts_of (codes "runas") ms
  commands ← member_of texts_of (codes "commands") ms
  longest ← member_of number_of (codes "longest") ms
  Some (record {
    ask = ask;
    approve = approve;
    needs = needs;
    hosts = hosts;
    runas = runas;
    commands = commands;
    longest = longest;
  })
ceiling_of _ = None

-- a table of ceilings
abbrev pub ceilings_of : Data → Option (List (List ℕ × CeilingFields (List ℕ)))
ceilings_of (table ms) = each_member ceiling_of ms
ceilings_of _ = None

-- what the document says, where no key is missing and each value has its type
unfoldable pub fields_of : Members → Option (RosterFields (List ℕ))
fields_of ms = do
  relays ← member_of texts_of (codes "relays") ms
  hosts ← member_of texts_of (codes "hosts") ms
  duties ← member_of texts_of (codes "duties") ms
  conflicts ← member_of pairs_of (codes "conflicts") ms
  people ← member_of people_of (codes "people") ms
  ceilings ← member_of ceilings_of (codes "ceilings") ms
  Some (record {
    relays = relays;
    hosts = hosts;
    duties = duties;
    conflicts = conflicts;
    people = people;
    ceilings = ceilings;
  })
