-- Names in order: a binary search finds one, and elements of one name are neighbours.
use Rattle.std.proofs.Common.{◌≡◌, cond, ◌⊎◌, inl, inr, ℕ, ℤ, zero, suc, ◌+◌, ◌-◌, ◌<◌, ◌≤◌, Bool, true, false, true≢false, not, ◌&&◌}
use Rattle.std.proofs.Common.{◌||◌, List, [], ◌∷◌, ◌++◌, length, get_or, drop, Ok, Err, refl, sym, ap, ap₂, subst, ◌∙◌, arith, ⊎_elim}
use Rattle.std.specs.Prelude.{Result, is_ok, count_by}
use Rattle.std.specs.Cmp.{IsTotalOrder}
use Rattle.std.specs.Cmp.Lexicographic.{slice_cmp, nat_list_cmp_total, texts_ties}
use Rattle.std.specs.List.{list_any}
use Rattle.std.specs.List.Sorted.{IsBinarySearchResult, IsPermutation, IsSorted, IsSortedBy, IsSearchInRange}
use Rattle.std.specs.Ordering.{int_cmp, int_eq, is_eq, is_lt, nat_cmp, ordering_then, ordering_reverse}
use Rattle.std.specs.declared.cmp.Ordering.{Ordering}
use Rattle.std.specs.declared.cmp.Ordering.TheVariants.{Less, Equal, Greater}
use Rattle.std.specs.Str.{bytes_eq}
use Rattle.std.proofs.lemmas.Bool.{cases_Bool, cases_lt, and_parts, and_from, or_cases}
use Rattle.std.proofs.lemmas.Bool.Decides.{Decides-int_eq}
use Rattle.std.proofs.lemmas.Cmp.{int_cmp_total, on_total, then_total}
use Rattle.std.proofs.lemmas.List.Folds.{list_any-append, list_any_at}
use Rattle.std.proofs.lemmas.List.Sorted.{ranks_by, searchable_from_sorted, sorted_far, sum_by-IsPermutation}
use Rattle.std.proofs.lemmas.List.Sums.{sum_by-cons}
use Rattle.std.proofs.lemmas.Slice.Eq.{bytes_eq-Decides}
use Rattle.sqlite_rules.specs.Lists.{Has}
use Rattle.store_opening.specs.declared.names.Asked.{Asked}
use Rattle.store_opening.specs.declared.names.NameKey.{NameKey}
use Rattle.store_opening.specs.private.Names.{asked_cmp, differ, differs, has_name, is_at, name_cmp, name_of, repeats}

-- ---- binary search

absent : {X : Type 0} (test : X → Bool) (xs : List X) → ((k : ℕ) (d : X) → k < length xs → test (get_or xs k d) ≡ false) → list_any test xs ≡ false
absent test [] none = refl
absent test (x ∷ xs) none = ap₂ (λ a b. a || b) (none 0 x (omega arith)) (absent test xs (λ k d l. none (suc k) d (omega arith)))

found : {K : Type 0} {R : K → K → Ordering} → IsTotalOrder R → (test : K → Bool) (x : K) → ((y : K) → test y ≡ is_eq (R y x)) → (xs : List K)
    → IsSorted R xs → (r : Result ℕ ℕ) → IsSearchInRange r (length xs) → IsBinarySearchResult (λ y. R y x) xs r → is_ok r ≡ list_any test xs
found total test x ties xs rising (Ok i) l there = sym (list_any_at test xs i x l (ties (get_or xs i x) ∙ ap is_eq (there x)))
found total test x ties xs rising (Err i) l there =
    let parts = there (searchable_from_sorted total (λ t. t) xs x rising) in
    sym (absent test xs
    (λ k d within. ties (get_or xs k d) ∙ ⊎_elim (λ b. ap is_eq (parts.0 k d (omega arith) b)) (λ a. ap is_eq (parts.1 k d a within)) (cases_lt k i)))

then_eq : (o p : Ordering) → is_eq (ordering_then o p) ≡ (is_eq o && is_eq p)
then_eq Less p = refl
then_eq Equal p = refl
then_eq Greater p = refl

name_total : IsTotalOrder name_cmp
name_total = then_total (on_total (λ (n : NameKey). n.by.now) nat_list_cmp_total) (on_total (λ (n : NameKey). n.number) int_cmp_total)

names_tie : (x y : NameKey) → is_at x.by.now x.number y ≡ is_eq (name_cmp y x)
names_tie x y =
    ap (λ a. a && int_eq y.number x.number) (texts_ties y.by.now x.by.now) ∙ sym (then_eq (slice_cmp nat_cmp y.by.now x.by.now) (int_cmp y.number x.number))

pub name_found : (names : List NameKey) → IsSorted name_cmp names → (x : NameKey) (r : Result ℕ ℕ) → IsSearchInRange r (length names)
    → IsBinarySearchResult (λ y. name_cmp y x) names r → is_ok r ≡ list_any (is_at x.by.now x.number) names
name_found names rising x r inside at = found name_total (is_at x.by.now x.number) x (names_tie x) names rising r inside at

-- ---- what is in order

has_place : {X : Type 0} (xs : List X) (y : X) → Has xs y → (k : ℕ) × (k < length xs) × ((d : X) → get_or xs k d ≡ y)
has_place [] y there = absurd there
has_place (x ∷ xs) y (inl e) = (0, omega arith, λ d. sym e)
has_place (x ∷ xs) y (inr there) = let it = has_place xs y there in (suc it.0, (let below = it.1 in omega (arith, below)), it.2)

neither : (o : Ordering) → is_lt o ≡ false → is_lt (ordering_reverse o) ≡ false → is_eq o ≡ true
neither Less h k = absurd (true≢false h)
neither Equal h k = refl
neither Greater h k = absurd (true≢false k)

pub same_name : (asker : List ℕ) (number : ℤ) (x : NameKey) → is_at asker number x ≡ true → (x.by.now ≡ asker) × (x.number ≡ number)
same_name asker number x is = let both = and_parts _ _ is in ((bytes_eq-Decides x.by.now asker).0 both.0, (Decides-int_eq x.number number).0 both.1)

pub is_the_name : (asker : List ℕ) (number : ℤ) (x : NameKey) → x.by.now ≡ asker → x.number ≡ number → is_at asker number x ≡ true
is_the_name asker number x by same = and_from _ _ ((bytes_eq-Decides x.by.now asker).1 by) ((Decides-int_eq x.number number).1 same)

module _ {X : Type 0} (name : X → NameKey) where
  abbrev pub comes_before : X → X → Bool
  comes_before a b = is_lt (name_cmp (name a) (name b))

  -- no element comes before one that is in front of it
  abbrev pub Rising : List X → Type 0
  Rising [] = Unit {0}
  Rising (x ∷ xs) = ((y : X) → Has xs y → comes_before y x ≡ false) × Rising xs

  pub rising : (xs : List X) → IsSortedBy comes_before xs → Rising xs
  rising [] sorted = tt
  rising (x ∷ xs) sorted = (behind, rising xs tail)
    where
      behind : (y : X) → Has xs y → comes_before y x ≡ false
      behind y there =
          let it = has_place xs y there in
          subst (λ z. comes_before z x ≡ false) (it.2 x)
          (sorted_far comes_before (ranks_by name_total name) (x ∷ xs) sorted 0 (suc it.0) x (omega arith) (let below = it.1 in omega (arith, below)))

      tail : IsSortedBy comes_before xs
      tail k d low high =
          let e : suc k + 1 ≡ suc (k + 1) = omega arith in
          subst (λ j. comes_before (get_or (x ∷ xs) j d) (get_or xs k d) ≡ false) e (sorted (suc k) d (omega arith) (omega (arith, high)))

  module _ (asker : List ℕ) (number : ℤ) where
    abbrev is_of : X → Bool
    is_of x = is_at asker number (name x)

    -- what stands between two of the name is of the name
    squeezed : (x z y : X) → is_of x ≡ true → is_of y ≡ true → comes_before z x ≡ false → comes_before y z ≡ false → is_of z ≡ true
    squeezed x z y here there above below =
        let a = same_name asker number (name x) here in
        let b = same_name asker number (name y) there in
        let by : (name y).by.now ≡ (name x).by.now = b.0 ∙ sym a.0 in
        let no : (name y).number ≡ (name x).number = b.1 ∙ sym a.1 in
        let back : is_lt (ordering_reverse (name_cmp (name z) (name x))) ≡ false =
        ap is_lt (sym (name_total.antisymm (name x) (name z)))
        ∙ (λ i. is_lt (ordering_then (slice_cmp nat_cmp (sym by i) (name z).by.now) (int_cmp (sym no i) (name z).number))) ∙ below in
        let same : is_at (name x).by.now (name x).number (name z) ≡ true = names_tie (name x) (name z) ∙ neither (name_cmp (name z) (name x)) above back in
        (λ i. bytes_eq (name z).by.now (sym a.0 i) && int_eq (name z).number (sym a.1 i)) ∙ same

-- ---- texts of one name

not_less : (a b : Ordering) → is_lt (ordering_then a b) ≡ false → is_lt a ≡ false
not_less Less b h = h
not_less Equal b h = refl
not_less Greater b h = refl

by_name : (xs : List Asked) → IsSorted asked_cmp xs → IsSortedBy (comes_before name_of) xs
by_name xs sorted k d low high =
    let a = get_or xs (k + 1) d in
    let b = get_or xs k d in
    not_less (name_cmp a.name b.name) (slice_cmp nat_cmp a.text.now b.text.now) (sorted k d low high)

pub asked_rising : (xs : List Asked) → IsSorted asked_cmp xs → Rising name_of xs
asked_rising xs sorted = rising name_of xs (by_name xs sorted)

or_false : (a b : Bool) → (a || b) ≡ false → (a ≡ false) × (b ≡ false)
or_false true b h = absurd (true≢false h)
or_false false b h = (refl, h)

not_true : (b : Bool) → not b ≡ true → b ≡ false
not_true true h = absurd (true≢false (sym h))
not_true false h = refl

not_false : (b : Bool) → not b ≡ false → b ≡ true
not_false true h = refl
not_false false h = absurd (true≢false h)

module _ (asker : List ℕ) (number : ℤ) where
  -- two of the name that do not differ have one text
  agree : (x y : Asked) → has_name asker number x ≡ true → has_name asker number y ≡ true
      → (has_name asker number x && differ x y) ≡ false → x.text.now ≡ y.text.now
  agree x y here there alike =
      let a = same_name asker number x.name here in
      let b = same_name asker number y.name there in
      let of = is_the_name x.name.by.now x.name.number y.name (b.0 ∙ sym a.0) (b.1 ∙ sym a.1) in
      let all : (has_name asker number x && differ x y) ≡ not (bytes_eq x.text.now y.text.now) =
      λ i. here i && (of i && not (bytes_eq x.text.now y.text.now)) in
      (bytes_eq-Decides x.text.now y.text.now).0 (not_false _ (sym all ∙ alike))

  -- where no two neighbours of the name differ, all have the text of the first
  as_first : (x : Asked) (xs : List Asked) → Rising name_of (x ∷ xs) → differs asker number (x ∷ xs) ≡ false
      → has_name asker number x ≡ true → (y : Asked) → Has xs y → has_name asker number y ≡ true → x.text.now ≡ y.text.now
  as_first x [] up none here y there of = absurd there
  as_first x (z ∷ zs) up none here y (inl e) of =
      let parts = or_false (has_name asker number x && differ x z) (differs asker number (z ∷ zs)) none in
      agree x y here of (subst (λ w. (has_name asker number x && differ x w) ≡ false) (sym e) parts.0)
  as_first x (z ∷ zs) up none here y (inr later) of =
      let parts = or_false (has_name asker number x && differ x z) (differs asker number (z ∷ zs)) none in
      let mid = squeezed name_of asker number x z y here of (up.0 z (inl refl)) (up.1.0 y later) in
      agree x z here mid parts.0 ∙ as_first z zs up.1 parts.1 mid y later of

  fewer : (x : Asked) (xs : List Asked) → differs asker number (x ∷ xs) ≡ false → differs asker number xs ≡ false
  fewer x [] none = refl
  fewer x (z ∷ zs) none = (or_false (has_name asker number x && differ x z) _ none).1

  -- two texts of the name are the same
  pub one_text : (xs : List Asked) → Rising name_of xs → differs asker number xs ≡ false → (p q : Asked)
      → Has xs p → Has xs q → has_name asker number p ≡ true → has_name asker number q ≡ true → p.text.now ≡ q.text.now
  one_text [] up none p q here there of too = absurd here
  one_text (x ∷ xs) up none p q (inl e) (inl f) of too = ap (λ (w : Asked). w.text.now) (e ∙ sym f)
  one_text (x ∷ xs) up none p q (inl e) (inr there) of too =
      ap (λ (w : Asked). w.text.now) e ∙ as_first x xs up none (subst (λ w. has_name asker number w ≡ true) e of) q there too
  one_text (x ∷ xs) up none p q (inr here) (inl f) of too =
      sym (as_first x xs up none (subst (λ w. has_name asker number w ≡ true) f too) p here of) ∙ ap (λ (w : Asked). w.text.now) (sym f)
  one_text (x ∷ xs) up none p q (inr here) (inr there) of too = one_text xs up.1 (fewer x xs none) p q here there of too

  pub record Differ (xs : List Asked) : Type 0 where
    pub p : Asked
    pub q : Asked
    pub here : Has xs p
    pub there : Has xs q
    pub of : has_name asker number p ≡ true
    pub too : has_name asker number q ≡ true
    pub apart : bytes_eq p.text.now q.text.now ≡ false

  -- where two neighbours differ, there are two texts
  pub two_texts : (xs : List Asked) → differs asker number xs ≡ true → Differ xs
  two_texts [] some = absurd (true≢false (sym some))
  two_texts (x ∷ []) some = absurd (true≢false (sym some))
  two_texts (x ∷ z ∷ zs) some = elim (or_cases (has_name asker number x && differ x z) (differs asker number (z ∷ zs)) some) [
    | inl first ↦
        let both = and_parts _ _ first in
        let beside = and_parts _ _ both.1 in
        let own = same_name asker number x.name both.0 in
        let next = same_name x.name.by.now x.name.number z.name beside.0 in
        record {
          p = x;
          q = z;
          here = inl refl;
          there = inr (inl refl);
          of = both.0;
          too = is_the_name asker number z.name (next.0 ∙ own.0) (next.1 ∙ own.1);
          apart = not_true _ beside.1;
        }
    | inr later ↦ let it = two_texts (z ∷ zs) later in
        record { p = it.p; q = it.q; here = inr it.here; there = inr it.there; of = it.of; too = it.too; apart = it.apart }
  ]

  -- ---- one step along the list

  step_at : (xs : List Asked) (j : ℕ) (d : Asked) → suc j < length xs → differs asker number (drop j xs)
      ≡ ((has_name asker number (get_or xs j d) && differ (get_or xs j d) (get_or xs (suc j) d)) || differs asker number (drop (suc j) xs))
  step_at [] j d within = absurd (omega (arith, within))
  step_at (x ∷ []) j d within = absurd (omega (arith, within))
  step_at (x ∷ y ∷ ys) zero d within = refl
  step_at (x ∷ y ∷ ys) (suc j) d within = step_at (y ∷ ys) j d (omega (arith, within))

-- ---- a name that occurs once

module _ (asker : List ℕ) (number : ℤ) where
  counted : (x : NameKey) (xs : List NameKey) (b : Bool) → is_at asker number x ≡ b
      → count_by (is_at asker number) (x ∷ xs) ≡ cond b 1 0 + count_by (is_at asker number) xs
  counted x xs b is = sum_by-cons (λ (y : NameKey). cond (is_at asker number y) 1 0) x xs ∙ ap (λ (t : Bool). cond t 1 0 + count_by (is_at asker number) xs) is

  counted_none : (xs : List NameKey) → ((y : NameKey) → Has xs y → is_at asker number y ≡ false) → count_by (is_at asker number) xs ≡ 0
  counted_none [] none = refl
  counted_none (x ∷ xs) none =
      let here : count_by (is_at asker number) (x ∷ xs) ≡ 0 + count_by (is_at asker number) xs = counted x xs false (none x (inl refl)) in
      let rest : count_by (is_at asker number) xs ≡ 0 = counted_none xs (λ y there. none y (inr there)) in
      omega (arith, here, rest)

  counted_one : (xs : List NameKey) → Rising (λ n. n) xs → repeats xs ≡ false → count_by (is_at asker number) xs ≤ 1
  counted_one [] up none = omega arith
  counted_one (x ∷ xs) up none = elim (cases_Bool (is_at asker number x)) [
    | inl is ↦
        let here : count_by (is_at asker number) (x ∷ xs) ≡ 1 + count_by (is_at asker number) xs = counted x xs true is in
        let rest : count_by (is_at asker number) xs ≡ 0 = counted_none xs (alone x xs up none is) in
        omega (arith, here, rest)
    | inr is ↦
        let here : count_by (is_at asker number) (x ∷ xs) ≡ 0 + count_by (is_at asker number) xs = counted x xs false is in
        let rest : count_by (is_at asker number) xs ≤ 1 = counted_one xs up.1 (rest_once x xs none) in
        omega (arith, here, rest)
  ]
    where
      rest_once : (x : NameKey) (xs : List NameKey) → repeats (x ∷ xs) ≡ false → repeats xs ≡ false
      rest_once x [] none = refl
      rest_once x (z ∷ zs) none = (or_false (is_at x.by.now x.number z) _ none).1

      between : (x z : NameKey) (zs : List NameKey) → Rising (λ n. n) (x ∷ z ∷ zs) → is_at asker number x ≡ true
          → (y : NameKey) → Has (z ∷ zs) y → is_at asker number y ≡ true → is_at asker number z ≡ true
      between x z zs up is y (inl e) same = subst (λ w. is_at asker number w ≡ true) e same
      between x z zs up is y (inr later) same = squeezed (λ n. n) asker number x z y is same (up.0 z (inl refl)) (up.1.0 y later)

      alone : (x : NameKey) (xs : List NameKey) → Rising (λ n. n) (x ∷ xs) → repeats (x ∷ xs) ≡ false
          → is_at asker number x ≡ true → (y : NameKey) → Has xs y → is_at asker number y ≡ false
      alone x [] up none is y there = absurd there
      alone x (z ∷ zs) up none is y there = elim (cases_Bool (is_at asker number y)) [
        | inr other ↦ other
        | inl same ↦
            let own = same_name asker number x is in
            let mid = between x z zs up is y there same in
            let of = same_name asker number z mid in
            absurd (true≢false (sym (is_the_name x.by.now x.number z (of.0 ∙ sym own.0) (of.1 ∙ sym own.1)) ∙ (or_false (is_at x.by.now x.number z) _ none).0))
      ]

-- sorted, and no two neighbours the same: no name occurs twice
pub each_once : (names sorted : List NameKey) → IsPermutation names sorted → IsSorted name_cmp sorted
    → repeats sorted ≡ false → (asker : List ℕ) (number : ℤ) → count_by (is_at asker number) names ≤ 1
each_once names sorted same up none asker number =
    let counts : count_by (is_at asker number) sorted ≡ count_by (is_at asker number) names = sum_by-IsPermutation _ names sorted same in
    let one = counted_one asker number sorted (rising (λ n. n) sorted up) none in
    omega (arith, counts, one)

drop_short : {X : Type 0} (xs : List X) (j : ℕ) → length xs ≤ suc j → (drop j xs ≡ []) ⊎ ((x : X) × (drop j xs ≡ x ∷ []))
drop_short [] zero short = inl refl
drop_short [] (suc j) short = inl refl
drop_short (x ∷ []) zero short = inr (x, refl)
drop_short (x ∷ y ∷ ys) zero short = absurd (omega (arith, short))
drop_short (x ∷ xs) (suc j) short = drop_short xs j (omega (arith, short))

-- nothing is left to find
pub none_left : (asker : List ℕ) (number : ℤ) (xs : List Asked) (j : ℕ) → length xs ≤ suc j → differs asker number (drop j xs) ≡ false
none_left asker number xs j short = elim (drop_short xs j short) [ inl e ↦ ap (differs asker number) e | inr it ↦ ap (differs asker number) it.1 ]

pub no_more : (xs : List NameKey) (j : ℕ) → length xs ≤ suc j → repeats (drop j xs) ≡ false
no_more xs j short = elim (drop_short xs j short) [ inl e ↦ ap repeats e | inr it ↦ ap repeats it.1 ]

pub repeats_at : (xs : List NameKey) (j : ℕ) (d : NameKey) → suc j < length xs
    → repeats (drop j xs) ≡ (is_at (get_or xs j d).by.now (get_or xs j d).number (get_or xs (suc j) d) || repeats (drop (suc j) xs))
repeats_at [] j d within = absurd (omega (arith, within))
repeats_at (x ∷ []) j d within = absurd (omega (arith, within))
repeats_at (x ∷ y ∷ ys) zero d within = refl
repeats_at (x ∷ y ∷ ys) (suc j) d within = repeats_at (y ∷ ys) j d (omega (arith, within))

pub or_end : (a : Bool) → (a || false) ≡ a
or_end true = refl
or_end false = refl

and_true : (a : Bool) → (a && true) ≡ a
and_true true = refl
and_true false = refl

and_false : (a : Bool) → (a && false) ≡ false
and_false true = refl
and_false false = refl

or_more : (a b d : Bool) → ((a || (b || false)) || d) ≡ (a || (b || d))
or_more true b d = refl
or_more false true d = refl
or_more false false d = refl

module _ (asker : List ℕ) (number : ℤ) (names : List NameKey) (xs : List Asked) (j : ℕ) (d : Asked) (within : suc j < length xs)
    (before : (list_any (is_at asker number) names || differs asker number (drop j xs)) ≡ differs asker number xs) where
  after_step : (list_any (is_at asker number) names || ((has_name asker number (get_or xs j d) && differ (get_or xs j d) (get_or xs (suc j) d))
      || differs asker number (drop (suc j) xs))) ≡ differs asker number xs
  after_step = ap (λ b. list_any (is_at asker number) names || b) (sym (step_at asker number xs j d within)) ∙ before

  pub kept_on : differ (get_or xs j d) (get_or xs (suc j) d) ≡ false
      → (list_any (is_at asker number) names || differs asker number (drop (suc j) xs)) ≡ differs asker number xs
  kept_on same =
      let h = has_name asker number (get_or xs j d) in
      ap (λ (b : Bool). list_any (is_at asker number) names || (b || differs asker number (drop (suc j) xs)))
      (sym (and_false h) ∙ ap (λ (e : Bool). h && e) (sym same)) ∙ after_step

  pub added_on : differ (get_or xs j d) (get_or xs (suc j) d) ≡ true
      → (list_any (is_at asker number) (names ++ name_of (get_or xs j d) ∷ []) || differs asker number (drop (suc j) xs)) ≡ differs asker number xs
  added_on other =
      let h = has_name asker number (get_or xs j d) in
      let rest = differs asker number (drop (suc j) xs) in
      ap (λ (b : Bool). b || rest) (list_any-append (is_at asker number) names (name_of (get_or xs j d) ∷ [])) ∙ or_more (list_any (is_at asker number) names)
      h rest ∙ ap (λ (b : Bool). list_any (is_at asker number) names || (b || rest)) (sym (and_true h) ∙ ap (λ (e : Bool). h && e) (sym other)) ∙ after_step

-- the same at a place that is counted from 1
module _ (asker : List ℕ) (number : ℤ) (names : List NameKey) (xs : List Asked) (i : ℕ) (d : Asked) (first : 1 ≤ i) (within : i < length xs)
    (before : (list_any (is_at asker number) names || differs asker number (drop (i - 1) xs)) ≡ differs asker number xs) where
  here_is : suc (i - 1) ≡ i
  here_is = omega arith

  next_is : suc (i - 1) ≡ i + 1 - 1
  next_is = omega arith

  pub kept_at : differ (get_or xs (i - 1) d) (get_or xs i d) ≡ false
      → (list_any (is_at asker number) names || differs asker number (drop (i + 1 - 1) xs)) ≡ differs asker number xs
  kept_at same =
      subst (λ k. (list_any (is_at asker number) names || differs asker number (drop k xs)) ≡ differs asker number xs) next_is (kept_on asker number names xs
      (i - 1) d (subst (λ k. k < length xs) (sym here_is) within) before (subst (λ k. differ (get_or xs (i - 1) d) (get_or xs k d) ≡ false) (sym here_is) same))

  pub added_at : differ (get_or xs (i - 1) d) (get_or xs i d) ≡ true → (m : NameKey) → m ≡ name_of (get_or xs (i - 1) d)
      → (list_any (is_at asker number) (names ++ m ∷ []) || differs asker number (drop (i + 1 - 1) xs)) ≡ differs asker number xs
  added_at other m is =
      subst (λ k. (list_any (is_at asker number) (names ++ m ∷ []) || differs asker number (drop k xs)) ≡ differs asker number xs) next_is
      (subst (λ n. (list_any (is_at asker number) (names ++ n ∷ []) || differs asker number (drop (suc (i - 1)) xs)) ≡ differs asker number xs) (sym is)
      (added_on asker number names xs (i - 1) d (subst (λ k. k < length xs) (sym here_is) within) before
      (subst (λ k. differ (get_or xs (i - 1) d) (get_or xs k d) ≡ true) (sym here_is) other)))
