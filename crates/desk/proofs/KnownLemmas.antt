-- What is known of a desk's messages, as they grow.
use Rattle.std.proofs.Common.{◌≡◌, ◌∙◌, ℕ, List, [], ◌∷◌, ◌++◌, Option, Some, None, refl, sym, subst, inl, inr}
use Rattle.std.specs.List.{Contains}
use Rattle.std.specs.Option.{IfSome}
use Rattle.std.proofs.lemmas.List.Elements.{Contains-append_left, Contains-push, Contains-push_cases}
use Rattle.sudo_words.specs.declared.cmnd.Cmnd.{Cmnd}
use Rattle.messages.specs.Wire.{IsMessage}
use Rattle.messages.specs.declared.message.Message.{Message}
use Rattle.messages.specs.declared.request_name.RequestName.{RequestName}
use Rattle.roster.specs.Fields.{RosterFields}
use Rattle.store_tables.specs.Sets.{IsWith, Lists, SameSet}
use Rattle.store_tables.specs.Arrivals.{IsTold}
use Rattle.store_tables.specs.declared.arrival.Arrival.{Arrival}
use Rattle.store_tables.specs.declared.arrival.Arrival.TheVariants.{New, Held}
use Rattle.std.specs.BTreeSet.{BTreeSet}
use Rattle.outcomes.specs.Gathered.{Known as Gathered}
use Rattle.suspects.specs.LookedAt.{AreKnownSuspects}
use Rattle.desk_store.specs.Keeping.{IsCountOf, IsKnownOf}
use Rattle.outcomes.proofs.Membership.{no_member}
use Rattle.desk.specs.Count.{IsCount}
use Rattle.desk.proofs.CountLemmas.{count_of_set}
use Rattle.desk.proofs.QueryLemmas.{same_listed}
use Rattle.desk.specs.declared.opening.Origin.{Origin}
use Rattle.desk.specs.declared.opening.Origin.TheVariants.{Found, Made}
use Rattle.desk.specs.declared.loading.Known.{Known}
use Rattle.desk.specs.private.Known.{IsCounted, IsKnown, IsKnownAtFirst, IsKnownIn, IsKnownOfUp, IsOriginOf, set_after}

pub lists_still : (S T : Message → Type 0) (list : List Message) → SameSet S T → Lists S list → Lists T list
lists_still S T list same lists n = (λ held. (lists n).0 ((same n).1 held), λ among. (same n).0 ((lists n).1 among))

pub with_lists : (S T : Message → Type 0) (m : Message) (list : List Message) → IsWith S m T → Lists S list → Lists T (list ++ m ∷ [])
with_lists S T m list grown lists = λ n. (there n, back n)
  where
    there : (n : Message) → T n → Contains (list ++ m ∷ []) n
    there n held =
        elim ((grown n).1 held) as (λ _. Contains (list ++ m ∷ []) n) [
          | inl old ↦ Contains-append_left list (m ∷ []) n ((lists n).0 old)
          | inr new ↦ subst (Contains (list ++ m ∷ [])) (sym new) (Contains-push list m)
        ]

    back : (n : Message) → Contains (list ++ m ∷ []) n → T n
    back n among =
        elim (Contains-push_cases list m n among) as (λ _. T n) [
          | inl old ↦ (grown n).0 (inl ((lists n).1 old))
          | inr new ↦ (grown n).0 (inr (sym new))
        ]

-- the same is held
pub known_still : (f : RosterFields Cmnd) (Up Later : Type 0) (S T : Message → Type 0) (o : Option Known) → IsKnown f Up S o
    → (Later → Up) → (Later → SameSet S T) → IsKnown f Later T o
known_still f Up Later S T None known was same = tt
known_still f Up Later S T (Some g) known was same = λ later.
    let k = known (was later) in (k.0, lists_still S T k.0 (same later) k.1, k.2)

-- a message came, which was new, or which was held
after_lists : (S T : Message → Type 0) (m : Message) (list : List Message) (arrival : Arrival) → IsWith S m T → IsTold (S m) arrival → Lists S list
    → Lists T (set_after arrival list m)
after_lists S T m list New grown told lists = with_lists S T m list grown lists
after_lists S T m list Held grown there lists = lists_still S T list (λ n. (
  λ held. (grown n).0 (inl held),
  λ held. elim ((grown n).1 held) as (λ _. S n) [ inl old ↦ old | inr new ↦ subst S (sym new) there ],
)) lists

told_listed : (S : Message → Type 0) (m : Message) (list : List Message) (arrival : Arrival) → Lists S list → IsTold (S m) arrival
    → IsTold (Contains list m) arrival
told_listed S m list New lists absent = λ among. absent ((lists m).1 among)
told_listed S m list Held lists there = (lists m).0 there

pub known_then : (f : RosterFields Cmnd) (Up Later : Type 0) (S T : Message → Type 0) (m : Message) (arrival : Arrival) (old new : Option Known)
    → IsKnown f Up S old → (Later → Up) → (Later → IsWith S m T) → (Later → IsTold (S m) arrival)
    → ((set : List Message) → IsTold (Contains set m) arrival → IfSome old (IsKnownIn f set) → IfSome new (IsKnownIn f (set_after arrival set m)))
    → (old ≡ None → new ≡ None) → IsKnown f Later T new
known_then f Up Later S T m arrival None None known was grown told more nothing = tt
known_then f Up Later S T m arrival None (Some g) known was grown told more nothing =
    let wrong : ◌≡◌ {A = Option Known} (Some g) None = nothing refl in absurd cc
known_then f Up Later S T m arrival (Some g) None known was grown told more nothing = tt
known_then f Up Later S T m arrival (Some g) (Some h) known was grown told more nothing = λ later.
    let k = known (was later) in (
      set_after arrival k.0 m,
      after_lists S T m k.0 arrival (grown later) (told later) k.1,
      more k.0 (told_listed S m k.0 arrival k.1 (told later)) k.2,
    )

-- suspects that are not known
unknown : (f : RosterFields Cmnd) (set : List Message) (o : Option (BTreeSet RequestName)) → o ≡ None → AreKnownSuspects f set o
unknown f set o none = subst (AreKnownSuspects f set) (sym none) tt

-- as many as the look told are those of a list of what is held
counted : (S : Message → Type 0) (list : List Message) (count : Option ℕ) → Lists S list → IfSome count (IsCountOf S) → IsCounted list count
counted S list None lists told = tt
counted S list (Some n) lists told = record {
  each = told.0;
  same = same_listed S list told.0 lists told.1;
  once = told.2.0;
  counted = told.2.1;
}

-- what is known at first is known of what is held
pub at_first : (f : RosterFields Cmnd) (Up : Type 0) (S : Message → Type 0) (origin : Origin) (o : Option Known)
    → IsKnownAtFirst origin o → (Up → IsOriginOf S origin) → IsKnown f Up S o
at_first f Up S Made None first is = tt
at_first f Up S Made (Some g) first is = λ up.
    ([], λ n. (λ held. absurd (is up n held), λ among. absurd (no_member n among)), (first.0, first.1, unknown f [] g.suspects first.2))
at_first f Up S (Found told count) None first is = tt
at_first f Up S (Found told count) (Some g) first is = λ up.
    let it = subst (λ (known : Option Gathered). IfSome known (IsKnownOf S)) first.0 (is up).0 in
    (it.0, it.1, (it.2, subst (IsCounted it.0) (sym first.1) (counted S it.0 count it.1 (is up).1), unknown f it.0 g.suspects first.2))

-- what is held is the same, and so is its set
pub known_with : (f : RosterFields Cmnd) (Up : Type 0) (S : Message → Type 0) (old new : Option Known) → IsKnown f Up S old
    → ((set : List Message) → Lists S set → Up → IfSome old (IsKnownIn f set) → IfSome new (IsKnownIn f set))
    → (old ≡ None → new ≡ None) → IsKnown f Up S new
known_with f Up S None None known more nothing = tt
known_with f Up S None (Some k) known more nothing =
    let wrong : ◌≡◌ {A = Option Known} (Some k) None = nothing refl in absurd cc
known_with f Up S (Some k) None known more nothing = tt
known_with f Up S (Some k) (Some l) known more nothing = λ up.
    let it = known up in (it.0, it.1, more it.0 it.1 up it.2)

-- the same of a list of what is held, which has messages alone
known_looked : (S : Message → Type 0) → ((m : Message) → S m → IsMessage m) → (Old Kept : List Message → Type 0)
    → ((set : List Message) → ((m : Message) → Contains set m → IsMessage m) → Old set → Kept set)
    → (set : List Message) × Lists S set × Old set → (set : List Message) × Lists S set × Kept set
known_looked S messages Old Kept more it = (it.0, it.1, more it.0 (λ m there. messages m ((it.1 m).1 there)) it.2)

-- and all that holds of a desk still holds, once what is known was looked at
pub desk_looked_at : {Fits Desk Durable Live Digests History Up Was : Type 0} {now was text : List ℕ} {Old Kept : List Message → Type 0}
    (S : Message → Type 0)
    → ((m : Message) → S m → IsMessage m) → ((set : List Message) → ((m : Message) → Contains set m → IsMessage m) → Old set → Kept set)
    → Fits → (Up → Desk) → (Up → now ≡ was) → (Was → was ≡ text) → (Up → Was) → (Up → Durable)
    → (Up → (set : List Message) × Lists S set × Old set) → Live → Digests → History
    → Fits × (Up → Desk) × (Up → now ≡ text) × (Up → Durable) × (Up → (set : List Message) × Lists S set × Kept set)
    × Live × Digests × History
desk_looked_at {Old = Old} {Kept = Kept} S messages more fits desk same was before durable known live digests history = (
  fits,
  desk,
  λ up. same up ∙ was (before up),
  durable,
  λ up. known_looked S messages Old Kept more (known up),
  live,
  digests,
  history,
)

-- and something is known only where something was known
pub known_of_up_with : (Clean Up : Type 0) (old new : Option Known) → IsKnownOfUp Clean Up old → (old ≡ None → new ≡ None) → IsKnownOfUp Clean Up new
known_of_up_with Clean Up None None live nothing = tt
known_of_up_with Clean Up None (Some k) live nothing =
    let wrong : ◌≡◌ {A = Option Known} (Some k) None = nothing refl in absurd cc
known_of_up_with Clean Up (Some k) None live nothing = tt
known_of_up_with Clean Up (Some k) (Some l) live nothing = live

-- how many messages are held, if something is known of them and they were counted
pub count_known : (f : RosterFields Cmnd) (Up : Type 0) (S : Message → Type 0) (known : Option Known) (count : Option ℕ) → IsKnown f Up S known
    → ((set : List Message) → IfSome known (IsKnownIn f set) → IfSome count (IsCount set)) → (known ≡ None → count ≡ None)
    → Up → (set : List Message) → Lists S set → IfSome count (IsCount set)
count_known f Up S known None is counted nothing up set lists = tt
count_known f Up S None (Some n) is counted nothing up set lists =
    let wrong : ◌≡◌ {A = Option ℕ} (Some n) None = nothing refl in absurd cc
count_known f Up S (Some k) (Some n) is counted nothing up set lists =
    let it = is up in
    count_of_set it.0 set n (same_listed S it.0 set it.1 lists) (counted it.0 it.2)

-- and then the keeper is up
pub up_where_counted : (Clean Up : Type 0) (known : Option Known) (count : Option ℕ) (n : ℕ) → IsKnownOfUp Clean Up known
    → (known ≡ None → count ≡ None) → count ≡ Some n → Clean → Up
up_where_counted Clean Up None count n live nothing is =
    let wrong : ◌≡◌ {A = Option ℕ} (Some n) None = sym is ∙ nothing refl in absurd cc
up_where_counted Clean Up (Some k) count n live nothing is = live

-- what is known of a set of messages is known of the same set under another roster
pub known_under : (f g : RosterFields Cmnd) (Up Later : Type 0) (S T : Message → Type 0) (old new : Option Known) → IsKnown f Up S old
    → (Later → Up) → (Later → SameSet S T) → ((set : List Message) → IfSome old (IsKnownIn f set) → IfSome new (IsKnownIn g set))
    → (old ≡ None → new ≡ None) → IsKnown g Later T new
known_under f g Up Later S T None None known was same still nothing = tt
known_under f g Up Later S T None (Some k) known was same still nothing =
    let wrong : ◌≡◌ {A = Option Known} (Some k) None = nothing refl in absurd cc
known_under f g Up Later S T (Some k) None known was same still nothing = tt
known_under f g Up Later S T (Some k) (Some l) known was same still nothing = λ later.
    let it = known (was later) in (it.0, lists_still S T it.0 (same later) it.1, still it.0 it.2)
