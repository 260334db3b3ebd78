-- The summaries of the names that are left at a host are those that what is left of its lines comes from, and the grants in force those of all names.
use Rattle.std.proofs.Common.{◌≡◌, ℕ, ◌+◌, ◌<◌, ◌++◌, true, length, take, drop, get_or, Bor, List, [], ◌∷◌}
use Rattle.std.proofs.Common.{Option, Some, None, refl, sym, ap, ◌∙◌, subst, inl, inr, append_assoc}
use Rattle.std.proofs.lemmas.List.{append-nil, map-append, take-append-drop}
use Rattle.std.specs.List.{Contains}
use Rattle.std.specs.List.Sorted.{IsStrictlySortedBy}
use Rattle.std.specs.BTreeMap.{BTreeMap, values}
use Rattle.std.specs.declared.cmp.Ordering.TheVariants.{Less}
use Rattle.std.proofs.lemmas.List.Elements.{Contains-append_left, Contains-append_right, Contains-append_cases}
use Rattle.std.proofs.lemmas.Map.Keys.{sorted_head, sorted_tail}
use Rattle.messages.specs.Fields.{IsRequest, RequestFields}
use Rattle.messages.specs.Names.{NamePrecedes, name_cmp, name_of}
use Rattle.messages.specs.Order.{AreInOrder}
use Rattle.messages.specs.declared.message.Message.{Message}
use Rattle.messages.specs.declared.request_name.RequestName.{RequestName}
use Rattle.messages.proofs.NameOrder.{lower_from_less}
use Rattle.sudo_decide.proofs.AnswerLemmas.{take_one_more}
use Rattle.grants.specs.Summaries.{Kept, StandsFor}
use Rattle.outcomes.specs.Summaries.{SummaryPrecedes}
use Rattle.outcomes.specs.declared.index.Ending.{Ending}
use Rattle.outcomes.specs.declared.index.Index.{Index}
use Rattle.outcomes.specs.private.Index.{AreListed, AreNamesLeft, IsListed, ending_of, endings_at, if_kept, is_left, kept_of, names_lent}
use Rattle.outcomes.specs.private.ByName.{AreRequests, Gathers, at_name}
use Rattle.outcomes.proofs.ByNameLemmas.{kept_at}
use Rattle.outcomes.proofs.GatherLemmas.{named_at}
use Rattle.outcomes.proofs.GivenLists.{AsksPast, IsLeftAt, IsRollOf, kept_alone, kept_stands}
use Rattle.outcomes.proofs.IndexLemmas.{each_at}
use Rattle.outcomes.proofs.Membership.{no_member, Contains-head, Contains-behind, Contains-cases}
use Rattle.outcomes.proofs.NameMaps.{value_at}
use Rattle.outcomes.proofs.Orders.{ordered_both}

if_kept_is : (o : Option Kept) (k : Kept) → Contains (if_kept o) k → o ≡ Some k
if_kept_is None k m = absurd (no_member k m)
if_kept_is (Some j) k m =
    elim (Contains-cases j [] k m) as (λ _. ◌≡◌ {A = Option Kept} (Some j) (Some k)) [
      | inl same ↦ ap (λ (x : Kept). Some x) same
      | inr later ↦ absurd (no_member k later)
    ]

if_kept_ordered : (o : Option Kept) → AreInOrder SummaryPrecedes (if_kept o)
if_kept_ordered None = tt
if_kept_ordered (Some k) = (tt, tt)

module _ (m : BTreeMap RequestName Kept) where
  pub kept_more : (names : List RequestName) (name : RequestName) → kept_of m (names ++ name ∷ []) ≡ kept_of m names ++ if_kept (at_name m name)
  kept_more [] name = append-nil (if_kept (at_name m name))
  kept_more (n ∷ names) name =
      ap (λ (ks : List Kept). if_kept (at_name m n) ++ ks) (kept_more names name)
      ∙ sym (append_assoc (if_kept (at_name m n)) (kept_of m names) (if_kept (at_name m name)))

  pub kept_both : (xs ys : List RequestName) → kept_of m (xs ++ ys) ≡ kept_of m xs ++ kept_of m ys
  kept_both [] ys = refl
  kept_both (n ∷ xs) ys =
      ap (λ (ks : List Kept). if_kept (at_name m n) ++ ks) (kept_both xs ys)
      ∙ sym (append_assoc (if_kept (at_name m n)) (kept_of m xs) (kept_of m ys))

  -- the names so far, of some that are lent, and one more
  pub lent_more : (ns : List (Bor RequestName)) (i : ℕ) (n : Bor RequestName) → i < length ns → n ≡ get_or ns i n
      → kept_of m (names_lent (take (i + 1) ns)) ≡ kept_of m (names_lent (take i ns)) ++ if_kept (at_name m n.now)
  lent_more ns i n within is =
      ap (kept_of m) (ap names_lent (take_one_more ns i n within is) ∙ map-append (λ (name : Bor RequestName). name.now) (take i ns) (n ∷ []))
      ∙ kept_more (names_lent (take i ns)) n.now

  -- those so far and the others are all
  pub lent_both : (ns : List (Bor RequestName)) (i : ℕ)
      → kept_of m (names_lent (take i ns)) ++ kept_of m (names_lent (drop i ns)) ≡ kept_of m (names_lent ns)
  lent_both ns i =
      sym (kept_both (names_lent (take i ns)) (names_lent (drop i ns)))
      ∙ ap (kept_of m) (sym (map-append (λ (name : Bor RequestName). name.now) (take i ns) (drop i ns)) ∙ ap names_lent (take-append-drop i ns))

  -- each is the summary of one of the names
  pub kept_from : (names : List RequestName) (k : Kept) → Contains (kept_of m names) k
      → (name : RequestName) × Contains names name × (at_name m name ≡ Some k)
  kept_from [] k among = absurd (no_member k among)
  kept_from (n ∷ names) k among =
      elim (Contains-append_cases (if_kept (at_name m n)) (kept_of m names) k among)
      as (λ _. (name : RequestName) × Contains (n ∷ names) name × (at_name m name ≡ Some k)) [
        | inl here ↦ (n, Contains-head n names, if_kept_is (at_name m n) k here)
        | inr later ↦ let found = kept_from names k later in (found.0, Contains-behind n names found.0 found.1, found.2)
      ]

  -- and the summary of each name is among them
  pub kept_has : (names : List RequestName) (name : RequestName) (k : Kept) → Contains names name → at_name m name ≡ Some k → Contains (kept_of m names) k
  kept_has [] name k among there = absurd (no_member name among)
  kept_has (n ∷ names) name k among there =
      elim (Contains-cases n names name among) as (λ _. Contains (if_kept (at_name m n) ++ kept_of m names) k) [
        | inl same ↦
            let is : at_name m n ≡ Some k = subst (λ (x : RequestName). at_name m x ≡ Some k) (sym same) there in
            Contains-append_left (if_kept (at_name m n)) (kept_of m names) k
            (subst (λ (o : Option Kept). Contains (if_kept o) k) (sym is) (Contains-head k []))
        | inr later ↦ Contains-append_right (if_kept (at_name m n)) (kept_of m names) k (kept_has names name k later there)
      ]

  module _ (set : List Message) (g : Gathers set m) where
    pub kept_of_ordered : (names : List RequestName) → IsStrictlySortedBy name_cmp names → AreInOrder SummaryPrecedes (kept_of m names)
    kept_of_ordered [] sorted = tt
    kept_of_ordered (n ∷ names) sorted =
        ordered_both SummaryPrecedes (if_kept (at_name m n)) (kept_of m names) (if_kept_ordered (at_name m n))
        (kept_of_ordered names (sorted_tail name_cmp n names sorted)) (λ j k here later.
        let found = kept_from names k later in
        let less = each_at (λ y. name_cmp n y ≡ Less) names (sorted_head name_cmp n names sorted) found.0 found.1 in
        let before : NamePrecedes n found.0 = lower_from_less n found.0 less in
        let own : name_of j.request ≡ n = named_at set m g n j (if_kept_is (at_name m n) j here) in
        let there : name_of k.request ≡ found.0 = named_at set m g found.0 k found.2 in
        subst (λ (x : RequestName). NamePrecedes x (name_of k.request)) (sym own) (subst (NamePrecedes n) (sym there) before))

    pub kept_of_stands : (names : List RequestName) (k : Kept) → Contains (kept_of m names) k → StandsFor set k
    kept_of_stands names k among =
        let found = kept_from names k among in kept_stands set m g k (value_at m found.0 k found.2)

    -- the request of one of them is each request that stands alone and whose ending is left where it is listed
    roll_from : (P : RequestFields → Type 0) (after : Option ℕ) (h : Index) (endings : List Ending) (names : List RequestName)
        → AreListed h m → AreNamesLeft after endings names
        → ((name : RequestName) (q : RequestFields) → IsListed h name q → P q → Contains endings (ending_of name q) × (is_left after q.until ≡ true))
        → IsRollOf set P (kept_of m names)
    roll_from P after h endings names listed are where_listed = record {
      in_order = kept_of_ordered names are.in_order;
      stands = kept_of_stands names;
      alone = λ q alone is.
          let found = kept_alone set m g q alone in
          let k = found.0 in
          let name = name_of k.request in
          let there : at_name m name ≡ Some k = kept_at set m g k found.1 in
          let own : P k.request = subst P (sym found.2) is in
          let both = where_listed name k.request (listed name k there) own in
          (k, kept_has names name k (are.all (ending_of name k.request) both.0 both.1) there, found.2);
    }

    pub host_roll : (h : Index) (host : List ℕ) (after : Option ℕ) (names : List RequestName) → AreListed h m
        → AreNamesLeft after (endings_at h.hosts host) names → IsRollOf set (IsLeftAt host after) (kept_of m names)
    host_roll h host after names listed are =
        roll_from (IsLeftAt host after) after h (endings_at h.hosts host) names listed are (λ name q is left. (is.at_hosts host left.0, left.1))

    pub live_roll : (h : Index) (at : ℕ) (names : List RequestName) → AreListed h m
        → AreNamesLeft (Some at) h.all.keys names → IsRollOf set (AsksPast at) (kept_of m names)
    live_roll h at names listed are =
        roll_from (AsksPast at) (Some at) h h.all.keys names listed are (λ name q is left. (is.among_all, left))

    pub values_are : AreRequests m → (k : Kept) → Contains (values m) k → IsRequest k.request
    values_are are k among = are (name_of k.request) k (kept_at set m g k among)
