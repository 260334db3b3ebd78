-- A walk over summaries: what is next is an entry of the map, and what is behind it too.
use Rattle.std.proofs.Common.{◌≡◌, ℕ, List, [], ◌∷◌, Option, Some, None, Bor, false, refl, sym, ap, subst}
use Rattle.std.specs.Prelude.{IfSome, IsSome, option_copied}
use Rattle.std.specs.List.{Contains}
use Rattle.std.specs.BTreeMap.{BTreeMap}
use Rattle.std.specs.BTreeMap.Range.{IsEntryInRange, IsInRange, IsLeBy, IsRangeOf}
use Rattle.std.specs.Ordering.{is_gt, ordering_reverse}
use Rattle.std.specs.declared.cmp.Ordering.{Ordering}
use Rattle.std.specs.declared.cmp.Ordering.TheVariants.{Less, Equal, Greater}
use Rattle.std.specs.declared.ops.Bound.{Bound}
use Rattle.std.specs.declared.ops.Bound.TheVariants.{Included, Unbounded}
use Rattle.std.proofs.lemmas.List.Elements.{All-contains}
use Rattle.sudo_words.specs.declared.cmnd.Cmnd.{Cmnd}
use Rattle.messages.specs.Names.{name_cmp}
use Rattle.messages.specs.declared.message.Message.{Message}
use Rattle.messages.specs.declared.request_name.RequestName.{RequestName}
use Rattle.roster.specs.Fields.{RosterFields}
use Rattle.grants.specs.Summaries.{Kept, StandsFor}
use Rattle.outcomes.specs.private.Behind.{AreNamesLines}
use Rattle.outcomes.specs.private.ByName.{Gathers, at_name}
use Rattle.outcomes.specs.private.Walk.{AreEntriesOf}
use Rattle.outcomes.proofs.GivenLists.{kept_stands}
use Rattle.outcomes.proofs.Membership.{no_member, Contains-head, Contains-behind}
use Rattle.outcomes.proofs.NameMaps.{equal_itself, names_total, same_from_equal, value_at}

pub none_rest : (m : BTreeMap RequestName Kept) → AreEntriesOf m []
none_rest m e among = absurd (no_member e among)

pub behind : (m : BTreeMap RequestName Kept) (old new : List (RequestName × Kept)) (e : RequestName × Kept) → old ≡ e ∷ new
    → AreEntriesOf m old → AreEntriesOf m new
behind m old new e steps are f among = are f (subst (λ (es : List (RequestName × Kept)). Contains es f) (sym steps) (Contains-behind e new f among))

pub next_is : (m : BTreeMap RequestName Kept) (old new : List (RequestName × Kept)) (e : RequestName × Kept) → old ≡ e ∷ new
    → AreEntriesOf m old → at_name m e.0 ≡ Some e.1
next_is m old new e steps are = are e (subst (λ (es : List (RequestName × Kept)). Contains es e) (sym steps) (Contains-head e new))

-- what is found stands for the messages about its name
pub found_stands : (m : BTreeMap RequestName Kept) (set : List Message) → Gathers set m → (name : RequestName) (o : Option (Bor Kept))
    → option_copied o ≡ at_name m name → IfSome o (λ s. StandsFor set s.now)
found_stands m set g name None is = tt
found_stands m set g name (Some s) is = kept_stands set m g s.now (value_at m name s.now (sym is))

-- and its lines are those of the name
pub named_lines : (f : RosterFields Cmnd) (set : List Message) (host : List ℕ) (after : Option ℕ) (m : BTreeMap RequestName Kept) (name : RequestName)
    (old new : List ℕ) (count : ℕ) (o : Option (Bor Kept)) → option_copied o ≡ at_name m name → Gathers set m
    → (IfSome o (λ s. StandsFor set s.now) → AreNamesLines f set host after (option_copied o) old new count)
    → AreNamesLines f set host after (at_name m name) old new count
named_lines f set host after m name old new count o is g lines =
    subst (λ (k : Option Kept). AreNamesLines f set host after k old new count) is (lines (found_stands m set g name o is))

-- ---- from a name on

abbrev pub IsFrom : BTreeMap RequestName Kept → RequestName → List (RequestName × Kept) → Type 0
IsFrom m name rest = IsRangeOf name_cmp (Included name) Unbounded m rest

inside : (name : RequestName) → IsInRange name_cmp (Included name) Unbounded name
inside name = (ap is_gt (equal_itself name), tt)

both_le : (o : Ordering) → is_gt (ordering_reverse o) ≡ false → is_gt o ≡ false → o ≡ Equal
both_le Less a b = absurd cc
both_le Equal a b = refl
both_le Greater a b = absurd cc

same_from_le : (a b : RequestName) → IsLeBy name_cmp a b → IsLeBy name_cmp b a → b ≡ a
same_from_le a b lower upper =
    same_from_equal b a (both_le (name_cmp b a) (subst (λ (o : Ordering). is_gt o ≡ false) (names_total.antisymm a b) lower) upper)

pub entries_from : (m : BTreeMap RequestName Kept) (lo hi : Bound RequestName) (rest : List (RequestName × Kept))
    → IsRangeOf name_cmp lo hi m rest → AreEntriesOf m rest
entries_from m lo hi rest is e among = (All-contains (IsEntryInRange name_cmp lo hi m) rest e is.0 among).1

pub none_from : (m : BTreeMap RequestName Kept) (name : RequestName) (rest : List (RequestName × Kept)) → IsFrom m name rest → rest ≡ []
    → at_name m name ≡ None
none_from m name rest is empty = is.5 empty name (inside name)

other_next : (m : BTreeMap RequestName Kept) (name : RequestName) (e : RequestName × Kept) (more : List (RequestName × Kept)) (o : Option Kept)
    → IsFrom m name (e ∷ more) → (e.0 ≡ name → ⊥) → at_name m name ≡ o → at_name m name ≡ None
other_next m name e more None is differ there = there
other_next m name e more (Some k) is differ there =
    let some : IsSome (at_name m name) = subst IsSome (sym there) refl in
    let upper : IsLeBy name_cmp e.0 name = is.2 name (inside name) some in
    let lower : IsLeBy name_cmp name e.0 = is.1.0.0 in
    absurd (differ (same_from_le name e.0 lower upper))

pub none_next : (m : BTreeMap RequestName Kept) (name : RequestName) (rest more : List (RequestName × Kept)) (e : RequestName × Kept)
    → IsFrom m name rest → rest ≡ e ∷ more → (e.0 ≡ name → ⊥) → at_name m name ≡ None
none_next m name rest more e is steps differ =
    other_next m name e more (at_name m name) (subst (IsFrom m name) steps is) differ refl
