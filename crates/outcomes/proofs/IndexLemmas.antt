-- The index, as requests are listed and as summaries come.
use Rattle.std.proofs.Common.{◌≡◌, ℕ, ◌<◌, ◌≤◌, Bool, true, false, ◌&&◌, ◌==◌, List, [], ◌∷◌, ◌++◌, Option, Some, None, Bor, bytes_eq}
use Rattle.std.proofs.Common.{refl, sym, ap, ◌∙◌, subst, inl, inr, arith, append_assoc}
use Rattle.std.specs.List.{Contains, AllByRecursion, dedup}
use Rattle.std.specs.List.Retain.{IsFiltered, DiffersFromLast}
use Rattle.std.specs.List.Sorted.{IsPermutation, IsSorted, IsStrictlySortedBy}
use Rattle.std.specs.BTreeMap.{BTreeMap, Updates, get, is_at}
use Rattle.std.specs.BTreeSet.{BTreeSet, insert_key}
use Rattle.std.specs.Cmp.{IsEquivalence, IsTotalOrder, and_equiv, nat_eq_equiv, on_equiv, unsigned_ties}
use Rattle.std.specs.Cmp.Lexicographic.{on_texts_equal, slice_cmp, texts_ties}
use Rattle.std.specs.Ordering.{MatchOrdering, is_eq, match_ordering, nat_cmp, ordering_then}
use Rattle.std.specs.declared.cmp.Ordering.{Ordering}
use Rattle.std.specs.declared.cmp.Ordering.TheVariants.{Less, Equal, Greater}
use Rattle.std.proofs.lemmas.Bool.{cases_Bool, leb-true, le-leb}
use Rattle.std.proofs.lemmas.Cmp.{on_total, ranked}
use Rattle.std.proofs.lemmas.List.{map-append}
use Rattle.std.proofs.lemmas.List.Elements.{Contains-append_left, Contains-append_right, Contains-append_cases}
use Rattle.std.proofs.lemmas.List.Filters.{dedup_is}
use Rattle.std.proofs.lemmas.List.Kept.{Any-dedup, Contains-from_dedup, IsStrictlySortedBy-dedup}
use Rattle.std.proofs.lemmas.List.Sorted.{Contains-permutation, IsPermutation-sym}
use Rattle.std.proofs.lemmas.Map.Keys.{sorted_head, sorted_tail}
use Rattle.std.proofs.lemmas.Map.Lookups.{exact_bytes, exact_unsigned}
use Rattle.messages.specs.Fields.{RequestFields}
use Rattle.messages.specs.Names.{name_cmp}
use Rattle.messages.specs.declared.request_name.RequestName.{RequestName}
use Rattle.grants.specs.Summaries.{Kept}
use Rattle.outcomes.specs.declared.index.Ending.{Ending}
use Rattle.outcomes.specs.declared.index.Index.{Index}
use Rattle.outcomes.specs.private.ByName.{AreRequests, at_name}
use Rattle.outcomes.specs.private.Index.{AreListed, AreNamesLeft, Hosts, IsListed, IsNameLeft}
use Rattle.outcomes.specs.private.Index.{ending_cmp, ending_of, endings_at, endings_in, is_left, names_lent}
use Rattle.outcomes.proofs.Membership.{no_member, Contains-head, Contains-behind, Contains-cases}
use Rattle.outcomes.proofs.NameMaps.{SetsAt, at_none, at_same, equal_from_test, equal_itself, names_total, same_cases, same_from_equal}

-- ---- the order of endings

both_tie : (a b : Ordering) → ordering_then a b ≡ Equal → (a ≡ Equal) × (b ≡ Equal)
both_tie Less b e = absurd cc
both_tie Equal b e = (refl, e)
both_tie Greater b e = absurd cc

pub same_ending : (a b : Ending) → ending_cmp a b ≡ Equal → a ≡ b
same_ending a b e =
    let ties = both_tie (nat_cmp a.until b.until) (name_cmp a.name b.name) e in
    let until : a.until ≡ b.until = exact_unsigned a.until b.until ties.0 in
    let name : a.name ≡ b.name = same_from_equal a.name b.name ties.1 in
    ap (λ (t : ℕ). record { until = t; name = a.name }) until ∙ ap (λ (n : RequestName). record { until = b.until; name = n }) name

-- ---- something comes to a set

module _ {X : Type 0} (cmp : X → X → Ordering) (exact : (a b : X) → cmp a b ≡ Equal → a ≡ b) where
  pub inserted_here : (ks : List X) (k : X) → Contains (insert_key cmp ks k) k
  inserted_here [] k = Contains-head k []
  inserted_here (x ∷ xs) k = at (cmp k x) refl (inserted_here xs k)
    where
      at : (o : Ordering) → cmp k x ≡ o → Contains (insert_key cmp xs k) k
          → Contains (match_ordering o (k ∷ x ∷ xs) (x ∷ xs) (x ∷ insert_key cmp xs k)) k
      at Less is later = Contains-head k (x ∷ xs)
      at Equal is later = subst (λ (y : X). Contains (x ∷ xs) y) (sym (exact k x is)) (Contains-head x xs)
      at Greater is later = Contains-behind x (insert_key cmp xs k) k later

  pub inserted_stays : (ks : List X) (k other : X) → Contains ks other → Contains (insert_key cmp ks k) other
  inserted_stays [] k other m = absurd (no_member other m)
  inserted_stays (x ∷ xs) k other m = at (cmp k x) (inserted_stays xs k other)
    where
      at : (o : Ordering) → (Contains xs other → Contains (insert_key cmp xs k) other)
          → Contains (match_ordering o (k ∷ x ∷ xs) (x ∷ xs) (x ∷ insert_key cmp xs k)) other
      at Less more = Contains-behind k (x ∷ xs) other m
      at Equal more = m
      at Greater more =
          elim (Contains-cases x xs other m) as (λ _. Contains (x ∷ insert_key cmp xs k) other) [
            | inl same ↦ subst (λ (y : X). Contains (x ∷ insert_key cmp xs k) y) same (Contains-head x (insert_key cmp xs k))
            | inr later ↦ Contains-behind x (insert_key cmp xs k) other (more later)
          ]

-- ---- the endings at one host are set

-- what was listed stays
abbrev pub Stays : Hosts → Hosts → Type 0
Stays old new = (at : List ℕ) (other : Ending) → Contains (endings_at old at) other → Contains (endings_at new at) other

pub listed_here : (new : Hosts) (host : List ℕ) (t : BTreeSet Ending) (ending : Ending)
    → get (slice_cmp nat_cmp) new host ≡ Some t → Contains t.keys ending → Contains (endings_at new host) ending
listed_here new host t ending there among =
    subst (λ (o : Option (BTreeSet Ending)). Contains (endings_in o) ending) (sym there) among

pub host_set : (old new : Hosts) (host : List ℕ) (t : BTreeSet Ending) → Updates (slice_cmp nat_cmp) old new host (Some t)
    → ((other : Ending) → Contains (endings_at old host) other → Contains t.keys other) → Stays old new
host_set old new host t updates more at other among =
    elim (cases_Bool (is_at (slice_cmp nat_cmp host) at)) as (λ _. Contains (endings_at new at) other) [
      | inl equal ↦
          let same : host ≡ at = exact_bytes host at (equal_from_test (slice_cmp nat_cmp host at) equal) in
          let before : Contains (endings_at old host) other = subst (λ (h : List ℕ). Contains (endings_at old h) other) (sym same) among in
          subst (λ (h : List ℕ). Contains (endings_at new h) other) same (listed_here new host t other updates.1 (more other before))
      | inr differs ↦ subst (λ (o : Option (BTreeSet Ending)). Contains (endings_in o) other) (sym (updates.2 at differs)) among
    ]

-- a host that has endings gets one more, and one that has none its first
pub endings_more : (old : Hosts) (host : List ℕ) (s : BTreeSet Ending) (keys : List Ending) → get (slice_cmp nat_cmp) old host ≡ Some s
    → ((other : Ending) → Contains s.keys other → Contains keys other) → (other : Ending) → Contains (endings_at old host) other → Contains keys other
endings_more old host s keys there more other among =
    more other (subst (λ (o : Option (BTreeSet Ending)). Contains (endings_in o) other) there among)

pub endings_first : (old : Hosts) (host : List ℕ) (keys : List Ending) → get (slice_cmp nat_cmp) old host ≡ None
    → (other : Ending) → Contains (endings_at old host) other → Contains keys other
endings_first old host keys bare other among =
    absurd (no_member other (subst (λ (o : Option (BTreeSet Ending)). Contains (endings_in o) other) bare among))

-- ---- a request is listed

pub still_listed : (old new : Index) → Stays old.hosts new.hosts → ((other : Ending) → Contains old.all.keys other → Contains new.all.keys other)
    → (name : RequestName) (q : RequestFields) → IsListed old name q → IsListed new name q
still_listed old new hosts all name q is = record {
  request = is.request;
  at_hosts = λ host lists. hosts host (ending_of name q) (is.at_hosts host lists);
  among_all = all (ending_of name q) is.among_all;
}

-- ---- the requests of summaries are listed

pub listed_none : (h : Index) (s : BTreeMap RequestName Kept) → s.entries ≡ [] → AreListed h s
listed_none h s empty name k there =
    let wrong : ◌≡◌ {A = Option Kept} None (Some k) = sym (at_none s name empty) ∙ there in absurd cc

pub listed_more : (h more : Index) (s : BTreeMap RequestName Kept)
    → ((name : RequestName) (q : RequestFields) → IsListed h name q → IsListed more name q) → AreListed h s → AreListed more s
listed_more h more s stays listed name k there = stays name k.request (listed name k there)

pub listed_same : (h : Index) (s t : BTreeMap RequestName Kept) → t.entries ≡ s.entries → AreListed h s → AreListed h t
listed_same h s t same listed name k there = listed name k (sym (at_same s t name same) ∙ there)

-- a name gets a summary of a request that is listed under it, and the others stay
pub listed_set : (h : Index) (s t : BTreeMap RequestName Kept) (name : RequestName) (k : Kept) → SetsAt s t name k
    → IsListed h name k.request → AreListed h s → AreListed h t
listed_set h s t name k sets here listed other j there =
    elim (same_cases name other) as (λ _. IsListed h other j.request) [
      | inl same ↦
          let own : ◌≡◌ {A = Option Kept} (Some k) (Some j) =
          sym (subst (λ (n : RequestName). at_name t n ≡ Some k) same sets.here) ∙ there in
          let is : k ≡ j = cc in
          subst (λ (n : RequestName). IsListed h n j.request) same (subst (λ (x : Kept). IsListed h name x.request) is here)
      | inr differ ↦ listed other j (sym (sets.elsewhere other differ) ∙ there)
    ]

-- the summary of a name changes, and its request stays
pub listed_again : (h : Index) (s t : BTreeMap RequestName Kept) (name : RequestName) (before after : Kept) → at_name s name ≡ Some before
    → SetsAt s t name after → after.request ≡ before.request → AreListed h s → AreListed h t
listed_again h s t name before after there sets same listed =
    listed_set h s t name after sets (subst (λ (q : RequestFields). IsListed h name q) (sym same) (listed name before there)) listed

-- the first summary of a name, once its request is listed
pub listed_first : (h more : Index) (s t : BTreeMap RequestName Kept) (name : RequestName) (k : Kept) (q : RequestFields) → SetsAt s t name k
    → k.request ≡ q → IsListed more name q → ((other : RequestName) (p : RequestFields) → IsListed h other p → IsListed more other p)
    → AreListed h s → AreListed more t
listed_first h more s t name k q sets same here stays listed =
    listed_set more s t name k sets (subst (λ (x : RequestFields). IsListed more name x) (sym same) here) (listed_more h more s stays listed)

pub listed_requests : (h : Index) (s : BTreeMap RequestName Kept) → AreListed h s → AreRequests s
listed_requests h s listed name k there = (listed name k there).request

-- ---- from the latest end down to the moment

pub each_at : {X : Type 0} (P : X → Type 0) (xs : List X) → AllByRecursion P xs → (x : X) → Contains xs x → P x
each_at P [] all x m = absurd (no_member x m)
each_at P (y ∷ xs) all x m =
    elim (Contains-cases y xs x m) as (λ _. P x) [
      | inl same ↦ subst P same all.0
      | inr later ↦ each_at P xs all.1 x later
    ]

-- what stands before an ending in their order asks for no later end
before_middle : (front rest : List Ending) (e x : Ending) → IsStrictlySortedBy ending_cmp (front ++ e ∷ rest) → Contains front x → ending_cmp x e ≡ Less
before_middle [] rest e x sorted m = absurd (no_member x m)
before_middle (y ∷ front) rest e x sorted m =
    elim (Contains-cases y front x m) as (λ _. ending_cmp x e ≡ Less) [
      | inl same ↦ subst (λ (z : Ending). ending_cmp z e ≡ Less) same
          (each_at (λ z. ending_cmp y z ≡ Less) (front ++ e ∷ rest) (sorted_head ending_cmp y (front ++ e ∷ rest) sorted) e
          (Contains-append_right front (e ∷ rest) e (Contains-head e rest)))
      | inr later ↦ before_middle front rest e x (sorted_tail ending_cmp y (front ++ e ∷ rest) sorted) later
    ]

no_later : (m n : ℕ) (o more : Ordering) → MatchOrdering o (m < n) (m ≡ n) (n < m) → ordering_then o more ≡ Less → m ≤ n
no_later m n Less more ranks less = omega (arith, ranks)
no_later m n Equal more ranks less = omega (arith, ranks)
no_later m n Greater more ranks less = absurd cc

until_from_less : (x e : Ending) → ending_cmp x e ≡ Less → x.until ≤ e.until
until_from_less x e less =
    no_later x.until e.until (nat_cmp x.until e.until) (name_cmp x.name e.name) (ranked x.until e.until (nat_cmp x.until e.until) refl) less

pub left_later : (after : Option ℕ) (m n : ℕ) → m ≤ n → is_left after m ≡ true → is_left after n ≡ true
left_later None m n le left = refl
left_later (Some moment) m n le left = le-leb moment n (omega (arith, le, leb-true moment m left))

-- nothing is left before an ending that is not
none_before : (after : Option ℕ) (front rest : List Ending) (e x : Ending) → IsStrictlySortedBy ending_cmp (front ++ e ∷ rest)
    → is_left after e.until ≡ false → Contains front x → is_left after x.until ≡ true → ⊥
none_before after front rest e x sorted ended m left =
    let less : ending_cmp x e ≡ Less = before_middle front rest e x sorted m in
    let also : is_left after e.until ≡ true = left_later after x.until e.until (until_from_less x e less) left in
    let wrong : false ≡ true = sym ended ∙ also in
    absurd cc

-- the names of the endings that are left, in any order
pub record AreLeft (after : Option ℕ) (endings : List Ending) (names : List RequestName) : Type 0 where
  pub each : (name : RequestName) → Contains names name → IsNameLeft after endings name
  pub all : (ending : Ending) → Contains endings ending → is_left after ending.until ≡ true → Contains names ending.name

pub none_left : (after : Option ℕ) (names : List (Bor RequestName)) → names ≡ [] → AreLeft after [] (names_lent names)
none_left after names empty = record {
  each = λ name m. absurd (no_member name (subst (λ (ns : List (Bor RequestName)). Contains (names_lent ns) name) empty m));
  all = λ e m left. absurd (no_member e m);
}

-- at a host where nothing is listed
pub none_at : (after : Option ℕ) (names : List (Bor RequestName)) → names ≡ [] → AreNamesLeft after [] (names_lent names)
unfolding IsStrictlySortedBy
none_at after names empty =
    let are = none_left after names empty in
    record { in_order = subst (λ (ns : List (Bor RequestName)). IsStrictlySortedBy name_cmp (names_lent ns)) (sym empty) tt; each = are.each; all = are.all }

-- one ending more, from behind
pub left_more : (after : Option ℕ) (seen : List Ending) (old new : List (Bor RequestName)) (e : Ending) (n : Bor RequestName) → new ≡ old ++ n ∷ []
    → n.now ≡ e.name → is_left after e.until ≡ true → AreLeft after seen (names_lent old) → AreLeft after (e ∷ seen) (names_lent new)
left_more after seen old new e n more is left are = subst (AreLeft after (e ∷ seen)) (sym more_names) record {
  each = λ other m. elim (Contains-append_cases (names_lent old) (n.now ∷ []) other m) as (λ _. IsNameLeft after (e ∷ seen) other) [
    | inl before ↦
        let found = are.each other before in
        record { ending = found.ending; among = Contains-behind e seen found.ending found.among; left = found.left; named = found.named }
    | inr last ↦ elim (Contains-cases n.now [] other last) as (λ _. IsNameLeft after (e ∷ seen) other) [
      | inl same ↦ record { ending = e; among = Contains-head e seen; left = left; named = sym is ∙ same }
      | inr none ↦ absurd (no_member other none)
    ]
  ];
  all = λ x m lasts. elim (Contains-cases e seen x m) as (λ _. Contains (names_lent old ++ n.now ∷ []) x.name) [
    | inl same ↦ Contains-append_right (names_lent old) (n.now ∷ []) x.name
        (subst (λ (y : RequestName). Contains (n.now ∷ []) y) (is ∙ ap (λ (y : Ending). y.name) same) (Contains-head n.now []))
    | inr later ↦ Contains-append_left (names_lent old) (n.now ∷ []) x.name (are.all x later lasts)
  ];
}
  where
    more_names : names_lent new ≡ names_lent old ++ n.now ∷ []
    more_names = ap names_lent more ∙ map-append (λ (name : Bor RequestName). name.now) old (n ∷ [])

-- these are all that are left once an ending is not left, or once none is before them
pub left_whole : (after : Option ℕ) (front seen all : List Ending) (e : Ending) (names : List RequestName) → (front ++ e ∷ []) ++ seen ≡ all
    → IsStrictlySortedBy ending_cmp all → is_left after e.until ≡ false → AreLeft after seen names → AreLeft after all names
left_whole after front seen all e names split sorted ended are = record {
  each = λ name m.
      let found = are.each name m in
      record {
        ending = found.ending;
        among = subst (λ (es : List Ending). Contains es found.ending) split (Contains-append_right (front ++ e ∷ []) seen found.ending found.among);
        left = found.left;
        named = found.named;
      };
  all = λ x m lasts.
      let there : Contains ((front ++ e ∷ []) ++ seen) x = subst (λ (es : List Ending). Contains es x) (sym split) m in
      elim (Contains-append_cases (front ++ e ∷ []) seen x there) as (λ _. Contains names x.name) [
        | inr behind ↦ are.all x behind lasts
        | inl before ↦ absurd (elim (Contains-append_cases front (e ∷ []) x before) as (λ _. ⊥) [
          | inl inside ↦
              let order : IsStrictlySortedBy ending_cmp (front ++ e ∷ seen) =
              subst (IsStrictlySortedBy ending_cmp) (sym split ∙ append_assoc front (e ∷ []) seen) sorted in
              none_before after front seen e x order ended inside lasts
          | inr last ↦ elim (Contains-cases e [] x last) as (λ _. ⊥) [
            | inl same ↦
                let wrong : false ≡ true = sym ended ∙ ap (λ (y : Ending). is_left after y.until) same ∙ lasts in
                absurd cc
            | inr none ↦ no_member x none
          ]
        ])
      ];
}

-- ---- in their order, each once

-- the order of names that are lent, and the test by which `dedup` compares two
abbrev pub lent_cmp : Bor RequestName → Bor RequestName → Ordering
lent_cmp a b = name_cmp a.now b.now

abbrev pub lent_eq : Bor RequestName → Bor RequestName → Bool
lent_eq a b = bytes_eq a.now.by b.now.by && (a.now.no == b.now.no)

lent_total : IsTotalOrder lent_cmp
lent_total = on_total (λ (n : Bor RequestName). n.now) names_total

lent_equiv : IsEquivalence lent_eq
lent_equiv = and_equiv (on_texts_equal (λ (n : Bor RequestName). n.now.by)) (on_equiv (λ (n : Bor RequestName). n.now.no) nat_eq_equiv)

tie_both : (a b : Ordering) → (is_eq a && is_eq b) ≡ is_eq (ordering_then a b)
tie_both Less b = refl
tie_both Equal b = refl
tie_both Greater b = refl

-- the derived test and the order agree
pub names_tie : (a b : RequestName) → (bytes_eq a.by b.by && (a.no == b.no)) ≡ is_eq (name_cmp a b)
names_tie a b =
    ap (λ (t : Bool). t && (a.no == b.no)) (texts_ties a.by b.by)
    ∙ ap (λ (t : Bool). is_eq (slice_cmp nat_cmp a.by b.by) && t) (unsigned_ties a.no b.no)
    ∙ tie_both (slice_cmp nat_cmp a.by b.by) (nat_cmp a.no b.no)

lent_ties : (a b : Bor RequestName) → lent_eq a b ≡ is_eq (lent_cmp a b)
lent_ties a b = names_tie a.now b.now

pub same_from_test : (a b : RequestName) → (bytes_eq a.by b.by && (a.no == b.no)) ≡ true → a ≡ b
same_from_test a b e = same_from_equal a b (equal_from_test (name_cmp a b) (sym (names_tie a b) ∙ e))

-- and two names that differ fail the test
pub same_passes : (a b : RequestName) → a ≡ b → (bytes_eq a.by b.by && (a.no == b.no)) ≡ true
same_passes a b same = names_tie a b ∙ ap (λ (x : RequestName). is_eq (name_cmp a x)) (sym same) ∙ ap is_eq (equal_itself a)

lent_after : (n : Bor RequestName) (ns : List (Bor RequestName)) → AllByRecursion (λ m. lent_cmp n m ≡ Less) ns
    → AllByRecursion (λ name. name_cmp n.now name ≡ Less) (names_lent ns)
lent_after n [] all = tt
lent_after n (m ∷ ns) all = (all.0, lent_after n ns all.1)

lent_sorted : (ns : List (Bor RequestName)) → IsStrictlySortedBy lent_cmp ns → IsStrictlySortedBy name_cmp (names_lent ns)
unfolding IsStrictlySortedBy
lent_sorted [] s = tt
lent_sorted (n ∷ ns) s = (lent_after n ns s.0, lent_sorted ns s.1)

lent_among : (ns : List (Bor RequestName)) (n : Bor RequestName) → Contains ns n → Contains (names_lent ns) n.now
lent_among [] n m = absurd (no_member n m)
lent_among (k ∷ ns) n m =
    elim (Contains-cases k ns n m) as (λ _. Contains (k.now ∷ names_lent ns) n.now) [
      | inl same ↦ subst (λ (x : Bor RequestName). Contains (k.now ∷ names_lent ns) x.now) same (Contains-head k.now (names_lent ns))
      | inr later ↦ Contains-behind k.now (names_lent ns) n.now (lent_among ns n later)
    ]

among_lent : (ns : List (Bor RequestName)) (name : RequestName) → Contains (names_lent ns) name
    → (n : Bor RequestName) × Contains ns n × (n.now ≡ name)
among_lent [] name m = absurd (no_member name m)
among_lent (k ∷ ns) name m =
    elim (Contains-cases k.now (names_lent ns) name m) as (λ _. (n : Bor RequestName) × Contains (k ∷ ns) n × (n.now ≡ name)) [
      | inl same ↦ (k, Contains-head k ns, same)
      | inr later ↦ let found = among_lent ns name later in (found.0, Contains-behind k ns found.0 found.1, found.2)
    ]

-- what `sort` and `dedup` leave of the names that are left
pub left_in_order : (after : Option ℕ) (endings : List Ending) (names sorted kept : List (Bor RequestName)) → AreLeft after endings (names_lent names)
    → IsPermutation names sorted → IsSorted lent_cmp sorted → IsFiltered (DiffersFromLast lent_eq) [] sorted kept
    → AreNamesLeft after endings (names_lent kept)
left_in_order after endings names sorted kept are moved ordered filtered = record {
  in_order = lent_sorted kept (subst (IsStrictlySortedBy lent_cmp) (sym is) (IsStrictlySortedBy-dedup lent_total lent_ties sorted ordered));
  each = λ name m.
      let found = among_lent kept name m in
      let inside : Contains sorted found.0 =
      Contains-from_dedup lent_eq sorted found.0 (subst (λ (ns : List (Bor RequestName)). Contains ns found.0) is found.1) in
      let before = Contains-permutation sorted names found.0 (IsPermutation-sym names sorted moved) inside in
      are.each name (subst (Contains (names_lent names)) found.2 (lent_among names found.0 before));
  all = λ x m lasts.
      let found = among_lent names x.name (are.all x m lasts) in
      let same = Any-dedup lent_equiv sorted found.0 (Contains-permutation names sorted found.0 moved found.1) in
      let inside : Contains kept same.1 = subst (λ (ns : List (Bor RequestName)). Contains ns same.1) (sym is) (same.0, same.2, same.3) in
      subst (Contains (names_lent kept)) (sym (same_from_test found.0.now same.1.now same.4) ∙ found.2) (lent_among kept same.1 inside);
}
  where
    is : kept ≡ dedup lent_eq sorted
    is = dedup_is lent_eq sorted kept filtered
