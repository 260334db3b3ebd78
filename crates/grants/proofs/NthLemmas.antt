-- The least moment by which n people have a mark that passes, found by taking the first mark, then the first of the others, and so on.
use Rattle.std.proofs.Common.{◌≡◌, ◌≢◌, ℕ, zero, suc, ◌-◌, ◌≤◌, Bool, true, false, not, List, [], ◌∷◌}
use Rattle.std.proofs.Common.{◌++◌, Option, Some, None, refl, sym, ap, ◌∙◌, subst, inl, inr, arith}
use Rattle.std.specs.List.{Contains}
use Rattle.std.specs.Option.{MatchOption, option_and_then}
use Rattle.std.specs.Prelude.{option_map}
use Rattle.std.specs.Str.{bytes_eq}
use Rattle.std.proofs.lemmas.Bool.{cases_Bool, and_parts, and_from, both_ways, or_parts, not-true, not_from_false, false_from_ne_true}
use Rattle.std.proofs.lemmas.Slice.Eq.{bytes_eq-Decides}
use Rattle.grants.specs.declared.marks.Mark.{Mark}
use Rattle.grants.specs.Verdicts.{AtLeast}
use Rattle.grants.specs.private.Firsts.{is_of, is_of_another, earliest_of, moment_of, after_others, nth_of}
use Rattle.grants.proofs.FirstLemmas.{IsEarliest, is_earliest}
use Rattle.grants.proofs.StatusLaws.{at_least_more}

-- ---- different people

-- without any one person, n + 1 different people are at least n different people
but_for_one : (n : ℕ) (P : List ℕ → Type 0) (x : List ℕ) → AtLeast (suc n) P → AtLeast n (λ other. P other × (other ≢ x))
but_for_one zero P x h = tt
but_for_one (suc n) P x h =
    elim (cases_Bool (bytes_eq h.0 x)) as (λ _. AtLeast (suc n) (λ other. P other × (other ≢ x))) [
      | inl e ↦
          let same : h.0 ≡ x = (bytes_eq-Decides h.0 x).0 e in
          at_least_more (suc n) (λ other. P other × (other ≢ h.0)) (λ other. P other × (other ≢ x)) (λ other p. (p.0, λ is. p.1 (is ∙ sym same))) h.2
      | inr e ↦ (
        h.0,
        (h.1, λ is. both_ways _ e ((bytes_eq-Decides h.0 x).1 is)),
        at_least_more n (λ other. (P other × (other ≢ h.0)) × (other ≢ x)) (λ other. (P other × (other ≢ x)) × (other ≢ h.0)) (λ other p. ((p.0.0, p.1), p.0.1))
            (but_for_one n (λ other. P other × (other ≢ h.0)) x h.2),
      )
    ]

-- ---- marks of others

-- the person has a mark that passes, by the moment
pub record HasBy (test : Mark → Bool) (marks : List Mark) (moment : ℕ) (person : List ℕ) : Type 0 where
  pub mark : Mark
  pub among : Contains marks mark
  pub passes : test mark ≡ true
  pub person_is : mark.person ≡ person
  pub by_then : mark.at ≤ moment

is_of_more : (people : List (List ℕ)) (x : List ℕ) (r : Mark) → is_of people r ≡ false → x ≢ r.person → is_of (people ++ x ∷ []) r ≡ false
is_of_more [] x r none differ =
    let other : bytes_eq x r.person ≡ false = false_from_ne_true (bytes_eq x r.person) (λ t. differ ((bytes_eq-Decides x r.person).0 t)) in
    rw other refl
is_of_more (p ∷ people) x r none differ =
    let parts = or_parts (bytes_eq p r.person) (is_of people r) none in
    let rest : is_of (people ++ x ∷ []) r ≡ false = is_of_more people x r parts.1 differ in
    rw (parts.0, rest) refl

is_of_less : (people : List (List ℕ)) (x : List ℕ) (r : Mark) → is_of (people ++ x ∷ []) r ≡ false → (is_of people r ≡ false) × (x ≢ r.person)
is_of_less [] x r none =
    (refl, λ same. both_ways _ (or_parts (bytes_eq x r.person) false none).0 ((bytes_eq-Decides x r.person).1 same))
is_of_less (p ∷ people) x r none =
    let parts = or_parts (bytes_eq p r.person) (is_of (people ++ x ∷ []) r) none in
    let rest = is_of_less people x r parts.1 in
    (rw (parts.0, rest.0) refl, rest.1)

module _ (test : Mark → Bool) (others : List (List ℕ)) (x : List ℕ) (r : Mark) where
  another_more : is_of_another test others r ≡ true → x ≢ r.person → is_of_another test (others ++ x ∷ []) r ≡ true
  another_more h differ =
      let parts = and_parts (not (is_of others r)) (test r) h in
      and_from _ _ (not_from_false _ (is_of_more others x r (not-true _ parts.0) differ)) parts.1

  another_less : is_of_another test (others ++ x ∷ []) r ≡ true → (is_of_another test others r ≡ true) × (x ≢ r.person)
  another_less h =
      let parts = and_parts (not (is_of (others ++ x ∷ []) r)) (test r) h in
      let rest = is_of_less others x r (not-true _ parts.0) in
      (and_from _ _ (not_from_false _ rest.0) parts.1, rest.1)

-- ---- the least moment by which n people have

-- the least moment by which n people have the property, or that there is none
abbrev pub IsNth : ℕ → (ℕ → List ℕ → Type 0) → Option ℕ → Type 0
IsNth n P o =
    MatchOption o ((moment : ℕ) → AtLeast n (P moment) → ⊥) (λ moment. AtLeast n (P moment) × ((other : ℕ) → AtLeast n (P other) → moment ≤ other))

-- if as many people have the one property as the other, both have the same least moment
pub nth_same : (n : ℕ) (P Q : ℕ → List ℕ → Type 0) → ((moment : ℕ) → AtLeast n (P moment) → AtLeast n (Q moment))
    → ((moment : ℕ) → AtLeast n (Q moment) → AtLeast n (P moment)) → (o : Option ℕ) → IsNth n P o → IsNth n Q o
nth_same n P Q to back None none = λ moment h. none moment (back moment h)
nth_same n P Q to back (Some moment) is = (to moment is.0, λ other h. is.1 other (back other h))

module _ (test : Mark → Bool) (marks : List Mark) where
  abbrev By : List (List ℕ) → ℕ → List ℕ → Type 0
  By others = HasBy (is_of_another test others) marks

  -- to leave out these people and one more is to leave out these people, and then that one
  but_one : (others : List (List ℕ)) (x : List ℕ) (moment : ℕ) (person : List ℕ) → By others moment person × (person ≢ x) → By (others ++ x ∷ []) moment person
  but_one others x moment person h = record {
    mark = h.0.mark;
    among = h.0.among;
    passes = another_more test others x h.0.mark h.0.passes (λ same. h.1 (sym (same ∙ h.0.person_is)));
    person_is = h.0.person_is;
    by_then = h.0.by_then;
  }

  one_but : (others : List (List ℕ)) (x : List ℕ) (moment : ℕ) (person : List ℕ) → By (others ++ x ∷ []) moment person → By others moment person × (person ≢ x)
  one_but others x moment person h =
      let less = another_less test others x h.mark h.passes in
      (record { mark = h.mark; among = h.among; passes = less.0; person_is = h.person_is; by_then = h.by_then }, λ same. less.1 (sym (h.person_is ∙ same)))

  -- if n + 1 have a mark, then n still have one when one more person is left out
  fewer : (others : List (List ℕ)) (x : List ℕ) (n moment : ℕ) → AtLeast (suc n) (By others moment) → AtLeast n (By (others ++ x ∷ []) moment)
  fewer others x n moment h =
      at_least_more n (λ person. By others moment person × (person ≢ x)) (By (others ++ x ∷ []) moment) (but_one others x moment)
      (but_for_one n (By others moment) x h)

  -- and one more has a mark when the first person is not left out any more
  again : (others : List (List ℕ)) (first : Mark) (n moment : ℕ) → IsEarliest (is_of_another test others) marks (Some first)
      → AtLeast (suc n) (By (others ++ first.person ∷ []) moment) → AtLeast (suc (suc n)) (By others moment)
  again others first n moment is h =
      let next = one_but others first.person moment h.0 h.1 in
      let low : first.at ≤ moment = omega (arith, is.least next.0.mark next.0.among next.0.passes, next.0.by_then) in (
        first.person,
        record { mark = first; among = is.among; passes = is.passes; person_is = refl; by_then = low },
        at_least_more (suc n) (By (others ++ first.person ∷ []) moment)
            (λ person. By others moment person × (person ≢ first.person)) (one_but others first.person moment) h,
      )

  one : (others : List (List ℕ)) (o : Option Mark) → IsEarliest (is_of_another test others) marks o → IsNth 1 (By others) (option_map moment_of o)
  one others None none = λ moment h. none h.1.mark h.1.among h.1.passes
  one others (Some first) is = (
    (first.person, record { mark = first; among = is.among; passes = is.passes; person_is = refl; by_then = omega arith }, tt),
    λ other h. omega (arith, is.least h.1.mark h.1.among h.1.passes, h.1.by_then),
  )

  one_more : (others : List (List ℕ)) (n : ℕ) (o : Option Mark) → IsEarliest (is_of_another test others) marks o
      → ((first : Mark) → IsNth (suc n) (By (others ++ first.person ∷ [])) (after_others test (others ++ first.person ∷ []) n marks))
      → IsNth (suc (suc n)) (By others) (option_and_then (λ first. after_others test (others ++ first.person ∷ []) n marks) o)
  one_more others n None none rest = λ moment h. none h.1.mark h.1.among h.1.passes
  one_more others n (Some first) is rest = more (after_others test (others ++ first.person ∷ []) n marks) (rest first)
    where
      more : (o : Option ℕ) → IsNth (suc n) (By (others ++ first.person ∷ [])) o → IsNth (suc (suc n)) (By others) o
      more None none = λ moment h. none moment (fewer others first.person (suc n) moment h)
      more (Some moment) nth =
          (again others first n moment is nth.0, λ other h. nth.1 other (fewer others first.person (suc n) other h))

  after : (others : List (List ℕ)) (n : ℕ) → IsNth (suc n) (By others) (after_others test others n marks)
  after others zero = one others (earliest_of (is_of_another test others) marks) (is_earliest (is_of_another test others) marks)
  after others (suc n) =
      one_more others n (earliest_of (is_of_another test others) marks)
      (is_earliest (is_of_another test others) marks) (λ first. after (others ++ first.person ∷ []) n)

  -- nobody is left out at first
  all_others : (moment : ℕ) (person : List ℕ) → HasBy test marks moment person → By [] moment person
  all_others moment person h =
      record { mark = h.mark; among = h.among; passes = and_from true _ refl h.passes; person_is = h.person_is; by_then = h.by_then }

  others_all : (moment : ℕ) (person : List ℕ) → By [] moment person → HasBy test marks moment person
  others_all moment person h =
      record { mark = h.mark; among = h.among; passes = (and_parts true (test h.mark) h.passes).1; person_is = h.person_is; by_then = h.by_then }

  -- The law: what is found is the least moment by which n people have a mark that passes.
  pub nth_is : (n : ℕ) → 1 ≤ n → IsNth n (HasBy test marks) (nth_of test n marks)
  nth_is zero some = absurd (omega (arith, some))
  nth_is (suc n) some =
      let count : suc n - 1 ≡ n = omega arith in
      subst (λ (k : ℕ). IsNth (suc n) (HasBy test marks) (after_others test [] k marks)) (sym count)
      (nth_same (suc n) (By []) (HasBy test marks)
      (λ moment. at_least_more (suc n) (By [] moment) (HasBy test marks moment) (others_all moment))
      (λ moment. at_least_more (suc n) (HasBy test marks moment) (By [] moment) (all_others moment))
      (after_others test [] n marks) (after [] n))

-- ---- as the code finds it

module _ (test : Mark → Bool) (marks : List Mark) where
  abbrev First : List (List ℕ) → Option Mark
  First others = earliest_of (is_of_another test others) marks

  no_more : (others : List (List ℕ)) (more : ℕ) → First others ≡ None → after_others test others more marks ≡ None
  no_more others zero e = ap (option_map moment_of) e
  no_more others (suc more) e = ap (option_and_then (λ (first : Mark). after_others test (others ++ first.person ∷ []) more marks)) e

  -- at least two are wanted, and there is only a first one
  pub no_second : (n : ℕ) (r : Mark) → 2 ≤ n → First [] ≡ Some r → First (r.person ∷ []) ≡ None → nth_of test n marks ≡ None
  no_second n r two e f =
      let count : n - 1 ≡ suc (n - 2) = omega (arith, two) in
      ap (λ (k : ℕ). after_others test [] k marks) count
      ∙ ap (option_and_then (λ (first : Mark). after_others test (first.person ∷ []) (n - 2) marks)) e
      ∙ no_more (r.person ∷ []) (n - 2) f
