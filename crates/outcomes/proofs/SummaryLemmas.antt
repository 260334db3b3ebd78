-- The summaries that are gathered are those of the set, and of every list of the same messages; and two lists of them keep the same.
use Rattle.std.proofs.Common.{◌≡◌, List, [], ◌∷◌, map, sym, ap, ◌∙◌, subst, inl, inr}
use Rattle.std.specs.List.{Contains}
use Rattle.std.specs.BTreeMap.{BTreeMap, values}
use Rattle.messages.specs.Names.{NamePrecedes, SameMessages, SameName, name_of}
use Rattle.messages.specs.declared.request_name.RequestName.{RequestName}
use Rattle.messages.specs.Order.{AllAfter, AreInOrder}
use Rattle.messages.specs.declared.message.Message.{Message}
use Rattle.messages.specs.declared.message.Message.TheVariants.{Request}
use Rattle.messages.proofs.NameOrder.{names_strict}
use Rattle.grants.specs.Summaries.{Kept, StandsFor}
use Rattle.grants.proofs.SummaryLaws.{alone, disputed, marks}
use Rattle.outcomes.specs.Summaries.{AllKeepTheSame, AreSummaries, KeepTheSame, SummaryPrecedes}
use Rattle.outcomes.specs.private.ByName.{Gathers}
use Rattle.outcomes.proofs.GivenLists.{kept_asked, kept_in_order, kept_stands}
use Rattle.outcomes.proofs.Membership.{no_member, Contains-head, Contains-behind, Contains-cases}
use Rattle.outcomes.proofs.Orders.{same_lists}
use Rattle.outcomes.proofs.Standing.{name_from_named, stands_same}

pub are_summaries : (set : List Message) (m : BTreeMap RequestName Kept) (list : List Kept) → Gathers set m → list ≡ values m → AreSummaries set list
are_summaries set m list gathers is =
    subst (AreSummaries set) (sym is) (record { in_order = kept_in_order set m gathers; each = kept_stands set m gathers; all = kept_asked set m gathers })

pub summaries_of_set : (s t : List Message) (list : List Kept) → SameMessages s t → AreSummaries s list → AreSummaries t list
summaries_of_set s t list same are = record {
  in_order = are.in_order;
  each = λ k among. stands_same s t k same (are.each k among);
  all = λ q asked. are.all q ((same (Request q)).1 asked);
}

-- ---- two lists of the summaries of a set

abbrev kept_name : Kept → RequestName
kept_name k = name_of k.request

names_behind : (k : Kept) (ks : List Kept) → AllAfter SummaryPrecedes k ks → AllAfter NamePrecedes (kept_name k) (map kept_name ks)
names_behind k [] all = tt
names_behind k (l ∷ ks) all = (all.0, names_behind k ks all.1)

names_in_order : (ks : List Kept) → AreInOrder SummaryPrecedes ks → AreInOrder NamePrecedes (map kept_name ks)
names_in_order [] o = tt
names_in_order (k ∷ ks) o = (names_behind k ks o.0, names_in_order ks o.1)

name_among : (ks : List Kept) (k : Kept) → Contains ks k → Contains (map kept_name ks) (kept_name k)
name_among [] k m = absurd (no_member k m)
name_among (l ∷ ks) k m =
    elim (Contains-cases l ks k m) as (λ _. Contains (map kept_name (l ∷ ks)) (kept_name k)) [
      | inl same ↦ subst (λ (x : Kept). Contains (map kept_name (l ∷ ks)) (kept_name x)) same (Contains-head (kept_name l) (map kept_name ks))
      | inr later ↦ Contains-behind (kept_name l) (map kept_name ks) (kept_name k) (name_among ks k later)
    ]

abbrev of_name : (ks : List Kept) (name : RequestName) → Contains (map kept_name ks) name → (k : Kept) × Contains ks k × (kept_name k ≡ name)
of_name [] name m = absurd (no_member name m)
of_name (l ∷ ks) name m =
    elim (Contains-cases (kept_name l) (map kept_name ks) name m) as (λ _. (k : Kept) × Contains (l ∷ ks) k × (kept_name k ≡ name)) [
      | inl same ↦ (l, Contains-head l ks, same)
      | inr later ↦ let found = of_name ks name later in (found.0, Contains-behind l ks found.0 found.1, found.2)
    ]

named_in_other : (set : List Message) (a b : List Kept) → AreSummaries set a → AreSummaries set b
    → (name : RequestName) → Contains (map kept_name a) name → Contains (map kept_name b) name
named_in_other set a b x y name m =
    let found = of_name a name m in
    let other = y.all found.0.request (x.each found.0 found.1).asked in
    subst (Contains (map kept_name b)) (name_from_named other.0.request (kept_name found.0) other.2 ∙ found.2) (name_among b other.0 other.1)

same_name : (a b : Kept) → kept_name a ≡ kept_name b → SameName a.request b.request
same_name a b same = (ap (λ (n : RequestName). n.by) same, ap (λ (n : RequestName). n.no) same)

keep_the_same : (set : List Message) (a b : Kept) → StandsFor set a → StandsFor set b → SameName a.request b.request → KeepTheSame a b
keep_the_same set a b s t named =
    let kept = marks set a b s t named in
    record {
      named = named;
      alone = λ single. ap (λ (k : Kept). k.request) (alone set a b s t named single);
      disputed = disputed set a b s t named;
      approvals = kept.0;
      refusals = kept.1;
      revocations = kept.2;
    }

first_of : (a b : RequestName) (ms ns : List RequestName) → ◌≡◌ {A = List RequestName} (a ∷ ms) (b ∷ ns) → a ≡ b
first_of a b ms ns e = cc

rest_of : (a b : RequestName) (ms ns : List RequestName) → ◌≡◌ {A = List RequestName} (a ∷ ms) (b ∷ ns) → ms ≡ ns
rest_of a b ms ns e = cc

all_keep : (set : List Message) (a b : List Kept) → ((k : Kept) → Contains a k → StandsFor set k)
    → ((k : Kept) → Contains b k → StandsFor set k) → map kept_name a ≡ map kept_name b → AllKeepTheSame a b
all_keep set [] [] s t e = tt
all_keep set [] (l ∷ ls) s t e = absurd cc
all_keep set (k ∷ ks) [] s t e = absurd cc
all_keep set (k ∷ ks) (l ∷ ls) s t e = (
  keep_the_same set k l (s k (Contains-head k ks)) (t l (Contains-head l ls))
      (same_name k l (first_of (kept_name k) (kept_name l) (map kept_name ks) (map kept_name ls) e)),
  all_keep set ks ls (λ j m. s j (Contains-behind k ks j m)) (λ j m. t j (Contains-behind l ls j m))
      (rest_of (kept_name k) (kept_name l) (map kept_name ks) (map kept_name ls) e),
)

pub one_of_summaries : (set : List Message) (a b : List Kept) → AreSummaries set a → AreSummaries set b → AllKeepTheSame a b
one_of_summaries set a b x y =
    all_keep set a b x.each y.each (same_lists NamePrecedes names_strict (map kept_name a) (map kept_name b)
    (names_in_order a x.in_order) (names_in_order b y.in_order) (named_in_other set a b x y) (named_in_other set b a y x))
