-- Who holds which duty when, which duties conflict, who may approve and who may revoke (NIST SP
-- 800-53 AC-5).
use Rattle.std.specs.Prelude.{◌≡◌, ℕ, List, [], ◌∷◌, Option, Some, None, if◌then◌else◌}
use Rattle.std.specs.Prelude.{Bool, true, not, ◌&&◌, ◌||◌, is_some, nat_le}
use Rattle.std.specs.List.{list_all, list_any}
use Rattle.std.specs.List.Sorted.{IsStrictlySortedBy}
use Rattle.std.specs.Map.{keys_of}
use Rattle.std.specs.declared.cmp.Ordering.{Ordering}
use Rattle.std.specs.Ordering.{ordering_then}
use Rattle.std.specs.Str.{bytes_eq}
use Rattle.sudo_words.specs.Lists.{is_before, text_order}
use Rattle.sudo_words.specs.Moment.{day_of}
use Rattle.roster.specs.Fields.{CeilingFields, Entry, RosterFields}
use Rattle.roster.specs.Rules.{is_among}
use Rattle.roster.specs.declared.days.Days.{Days}
use Rattle.roster.specs.declared.days.Days.TheVariants.{Always, Between}

-- what a list of names, each with something, has under a name (the first, if several are equal)
abbrev pub entry_of : {X : Type 0} → List (List ℕ × X) → List ℕ → Option X
entry_of [] name = None
entry_of (e ∷ es) name = if bytes_eq e.0 name then Some e.1 else entry_of es name

-- the entries of a person; one whom the roster does not list has none
abbrev pub or_none : Option (List Entry) → List Entry
or_none None = []
or_none (Some entries) = entries

abbrev pub entries_for : {C : Type 0} → RosterFields C → (person : List ℕ) → List Entry
entries_for f person = or_none (entry_of f.people person)

-- the day is one of the days
abbrev pub hold : Days → (day : ℕ) → Bool
hold Always day = true
hold (Between from until) day = nat_le from day && nat_le day until

-- the entry has the duty, and the day is one of its days
abbrev pub gives : (duty : List ℕ) (day : ℕ) → Entry → Bool
gives duty day e = bytes_eq e.0 duty && hold e.1 day

-- the person holds the duty at the moment
abbrev pub holds : {C : Type 0} → RosterFields C → (person duty : List ℕ) (at : ℕ) → Bool
holds f person duty at = list_any (gives duty (day_of at)) (entries_for f person)

-- the pair is these two, this way round
abbrev pub is_pair : (first second : List ℕ) → List ℕ × List ℕ → Bool
is_pair first second p = bytes_eq p.0 first && bytes_eq p.1 second

-- the pair is these two, either way round
abbrev pub joins : (first second : List ℕ) → List ℕ × List ℕ → Bool
joins first second p = is_pair first second p || is_pair second first p

-- the roster lists the two duties as a pair
abbrev pub conflicting : {C : Type 0} → RosterFields C → (first second : List ℕ) → Bool
conflicting f first second = list_any (joins first second) f.conflicts

-- the entry has a duty that conflicts with this one, and the day is one of its days
abbrev pub is_against : {C : Type 0} → RosterFields C → (duty : List ℕ) (day : ℕ) → Entry → Bool
is_against f duty day e = hold e.1 day && conflicting f e.0 duty

-- the person holds at the moment a duty that conflicts with this one
abbrev pub holds_against : {C : Type 0} → RosterFields C → (person duty : List ℕ) (at : ℕ) → Bool
holds_against f person duty at = list_any (is_against f duty (day_of at)) (entries_for f person)

-- Separation of duties: whoever approves at a moment is not the asker, holds the approving duty
-- then, and holds no duty then that conflicts with it.
abbrev pub eligible : {C D : Type 0} → RosterFields C
    → (person asker : List ℕ) → CeilingFields D → (at : ℕ) → Bool
eligible f person asker c at =
    not (bytes_eq person asker)
    && holds f person c.approve at && not (holds_against f person c.approve at)

-- the asker may revoke, and so may whoever holds the approving duty at the moment
abbrev pub may_revoke : {C D : Type 0} → RosterFields C
    → (person asker : List ℕ) → CeilingFields D → (at : ℕ) → Bool
may_revoke f person asker c at = bytes_eq person asker || holds f person c.approve at

-- the ceiling of a label
abbrev pub ceiling_at : {C : Type 0} → RosterFields C → (label : List ℕ) → Option (CeilingFields C)
ceiling_at f label = entry_of f.ceilings label

-- the roster lists the person
abbrev pub has_person : {C : Type 0} → RosterFields C → (person : List ℕ) → Bool
has_person f person = is_some (entry_of f.people person)

-- ---- byte order

-- one of the words, and none of them comes before it
pub record IsFirst (words : List (List ℕ)) (w : List ℕ) : Type 0 where
  pub among : is_among words w ≡ true
  pub first : list_all (λ v. not (is_before v w)) words ≡ true

-- each name comes before those after it, so none comes twice
abbrev pub AreRising : {X : Type 0} → List (List ℕ × X) → Type 0
AreRising entries = IsStrictlySortedBy text_order (keys_of entries)

-- a roster's people and ceilings are in the byte order of their names, each name once
pub record IsOrdered {C : Type 0} (f : RosterFields C) : Type 0 where
  pub people : AreRising f.people
  pub ceilings : AreRising f.ceilings

-- pairs by the first of the two, then by the second
abbrev pub pair_order : (p q : List ℕ × List ℕ) → Ordering
pair_order p q = ordering_then (text_order p.0 q.0) (text_order p.1 q.1)
