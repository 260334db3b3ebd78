-- Who has approved a request and is listed under BARRED, from the approvals in order.
use Rattle.std.proofs.Common.{◌≡◌, ◌⊎◌, ℕ, ◌≤◌, ltb, false, List, [], ◌∷◌, map, Option, Some, None, refl, sym, ap, ◌∙◌, subst, inl, inr, arith}
use Rattle.std.specs.Cmp.{nat_cmp_is}
use Rattle.std.specs.Cmp.Lexicographic.{nat_list_cmp_total}
use Rattle.std.specs.FinSet.{nat_cmp-IsAntisymmetric, slice_cmp-IsAntisymmetric}
use Rattle.std.specs.List.{AllByRecursion, Contains, flat_map}
use Rattle.std.specs.List.Sorted.{IsStrictlySortedBy}
use Rattle.std.specs.Ordering.{nat_cmp, ordering_reverse, ordering_then}
use Rattle.std.specs.Str.{bytes_eq}
use Rattle.std.specs.declared.cmp.Ordering.{Ordering}
use Rattle.std.specs.declared.cmp.Ordering.TheVariants.{Less, Equal, Greater}
use Rattle.std.proofs.lemmas.Bool.{cases_Bool, cond-true, cond-false, both_ways, ltb-true, ltb-false}
use Rattle.std.proofs.lemmas.List.Elements.{All-contains, All-from_recursion}
use Rattle.std.proofs.lemmas.Map.Keys.{sorted_head, sorted_tail}
use Rattle.std.proofs.lemmas.Slice.Eq.{bytes_eq-Decides}
use Rattle.sudo_words.specs.declared.cmnd.Cmnd.{Cmnd}
use Rattle.messages.specs.Fields.{RequestFields}
use Rattle.messages.specs.declared.message.Message.{Message}
use Rattle.roster.specs.Fields.{CeilingFields, RosterFields}
use Rattle.roster.specs.Relations.{eligible}
use Rattle.grants.specs.Summaries.{AreApprovals, approval_cmp}
use Rattle.grants.proofs.MemberCases.{nothing_there, cases_behind}
use Rattle.grants.proofs.Members.{Contains-head, Contains-behind}
use Rattle.review.specs.declared.reason.Reason.{Reason}
use Rattle.review.specs.Barred.{AreBarredLines, HasApproved, HasApprovedAt, IsWhy, barred_for, reason}
use Rattle.review.specs.Report.{AreAll}
use Rattle.review.specs.private.Whys.{both, joined, whys}
use Rattle.sudo_words.specs.Lists.{AreParts, text_order}
use Rattle.sudo_words.proofs.Lists.{contains_map}
use Rattle.review.proofs.ReportLaws.{barred_is_not_eligible, unbarred_is_eligible}

-- ---- orders

reversed : (o : Ordering) → o ≡ ordering_reverse o → o ≡ Less → ⊥
reversed Less turned e = cc
reversed Equal turned e = cc
reversed Greater turned e = cc

not_below_itself : (p : List ℕ) → text_order p p ≡ Less → ⊥
not_below_itself p e = reversed (text_order p p) (nat_list_cmp_total.antisymm p p) e

then_less : (a b : Ordering) → ordering_then a b ≡ Less → (a ≡ Less) ⊎ ((a ≡ Equal) × (b ≡ Less))
then_less Less b e = inl refl
then_less Equal b e = inr (refl, e)
then_less Greater b e = absurd cc

less_is_le : (x y : ℕ) → nat_cmp x y ≡ Less → x ≤ y
less_is_le x y e =
    elim (cases_Bool (ltb y x)) as (λ _. x ≤ y) [
      | inl lt ↦ let turned : Greater ≡ Less = nat_cmp_is x y Greater (ltb-true y x lt) ∙ e in absurd cc
      | inr ge ↦ ltb-false y x ge
    ]

-- the first approval comes before each of the others
after : (a x : List ℕ × ℕ) (others : List (List ℕ × ℕ)) → IsStrictlySortedBy approval_cmp (a ∷ others) → Contains others x → approval_cmp a x ≡ Less
after a x others sorted there =
    All-contains (λ y. approval_cmp a y ≡ Less) others x
    (All-from_recursion (λ y. approval_cmp a y ≡ Less) others (sorted_head approval_cmp a others sorted)) there

-- and so, if it is by the same person, it is no later
no_later : (a : List ℕ × ℕ) (at : ℕ) (others : List (List ℕ × ℕ)) → IsStrictlySortedBy approval_cmp (a ∷ others) → Contains others (a.0, at) → a.1 ≤ at
no_later a at others sorted there =
    elim (then_less (text_order a.0 a.0) (nat_cmp a.1 at) (after a (a.0, at) others sorted there)) as (λ _. a.1 ≤ at) [
      | inl below ↦ absurd (not_below_itself a.0 below)
      | inr tie ↦ less_is_le a.1 at tie.1
    ]

abbrev keys : List (List ℕ × Option Reason) → List (List ℕ)
keys ws = map (λ w. w.0) ws

-- ---- one person

module _ (f : RosterFields Cmnd) (c : CeilingFields Cmnd) (asker : List ℕ) where
  alike : (person : List ℕ) (P Q : ℕ → Type 0) → ((at : ℕ) → P at → Q at) → ((at : ℕ) → Q at → P at)
      → (why : Option Reason) → IsWhy f c asker person P why → IsWhy f c asker person Q why
  alike person P Q to back None is = record { moment = is.moment; approved = to is.moment is.approved; eligible_then = is.eligible_then }
  alike person P Q to back (Some why) is = record {
    first = is.first;
    approved = to is.first is.approved;
    earliest = λ at there. is.earliest at (back at there);
    why_is = is.why_is;
    never = λ at there. is.never at (back at there);
  }

  -- whoever has a reason, or was eligible, has approved
  has_one : (person : List ℕ) (P : ℕ → Type 0) (why : Option Reason) → IsWhy f c asker person P why → (at : ℕ) × P at
  has_one person P None is = (is.moment, is.approved)
  has_one person P (Some why) is = (is.first, is.approved)

  -- the only approval of a person, and one with later ones of the same person
  alone : (a : List ℕ × ℕ) (others : List (List ℕ × ℕ)) (why : Option Reason) → reason f c asker a.0 a.1 ≡ why → ((at : ℕ) → Contains others (a.0, at) → ⊥)
      → IsWhy f c asker a.0 (λ at. Contains (a ∷ others) (a.0, at)) why
  alone a others None e none = record { moment = a.1; approved = Contains-head a others; eligible_then = unbarred_is_eligible f c asker a.0 a.1 e }
  alone a others (Some why) e none = record {
    first = a.1;
    approved = Contains-head a others;
    earliest = λ at there. let same : a.1 ≡ at = own at there in omega (arith, same);
    why_is = e;
    never = λ at there. subst (λ (t : ℕ). eligible f a.0 asker c t ≡ false) (own at there) (barred_is_not_eligible f c asker a.0 a.1 why e);
  }
    where
      own : (at : ℕ) → Contains (a ∷ others) (a.0, at) → a.1 ≡ at
      own at there =
          elim (cases_behind a others (a.0, at) there) as (λ _. a.1 ≡ at) [ inl same ↦ ap (λ (x : List ℕ × ℕ). x.1) same | inr more ↦ absurd (none at more) ]

  with_later : (a : List ℕ × ℕ) (others : List (List ℕ × ℕ)) (why later : Option Reason)
      → reason f c asker a.0 a.1 ≡ why → ((at : ℕ) → Contains others (a.0, at) → a.1 ≤ at)
      → IsWhy f c asker a.0 (λ at. Contains others (a.0, at)) later → IsWhy f c asker a.0 (λ at. Contains (a ∷ others) (a.0, at)) (both why later)
  with_later a others None later e sooner is = record {
    moment = a.1;
    approved = Contains-head a others;
    eligible_then = unbarred_is_eligible f c asker a.0 a.1 e;
  }
  with_later a others (Some why) None e sooner is =
      record { moment = is.moment; approved = Contains-behind a others (a.0, is.moment) is.approved; eligible_then = is.eligible_then }
  with_later a others (Some why) (Some other) e sooner is = record {
    first = a.1;
    approved = Contains-head a others;
    earliest = λ at there. elim (cases_behind a others (a.0, at) there) as (λ _. a.1 ≤ at) [
      | inl same ↦ let tie : a.1 ≡ at = ap (λ (x : List ℕ × ℕ). x.1) same in omega (arith, tie)
      | inr more ↦ sooner at more
    ];
    why_is = e;
    never = λ at there. elim (cases_behind a others (a.0, at) there) as (λ _. eligible f a.0 asker c at ≡ false) [
      | inl same ↦ subst (λ (x : List ℕ × ℕ). eligible f a.0 asker c x.1 ≡ false) same (barred_is_not_eligible f c asker a.0 a.1 why e)
      | inr more ↦ is.never at more
    ];
  }

  -- an approval changes nothing for other people
  of_another : (a : List ℕ × ℕ) (others : List (List ℕ × ℕ)) (person : List ℕ) (why : Option Reason) → (person ≡ a.0 → ⊥)
      → IsWhy f c asker person (λ at. Contains others (person, at)) why → IsWhy f c asker person (λ at. Contains (a ∷ others) (person, at)) why
  of_another a others person why other is =
      alike person (λ at. Contains others (person, at)) (λ at. Contains (a ∷ others) (person, at))
      (λ at there. Contains-behind a others (person, at) there)
      (λ at there. elim (cases_behind a others (person, at) there) as (λ _. Contains others (person, at)) [
        | inl same ↦ absurd (other (sym (ap (λ (x : List ℕ × ℕ). x.0) same)))
        | inr more ↦ more
      ])
      why is

  -- ---- all of them

  record WhysAre (others : List (List ℕ × ℕ)) (ws : List (List ℕ × Option Reason)) : Type 0 where
    rising : IsStrictlySortedBy text_order (keys ws)
    each : (person : List ℕ) (why : Option Reason) → Contains ws (person, why) → IsWhy f c asker person (λ at. Contains others (person, at)) why
    all : (person : List ℕ) (at : ℕ) → Contains others (person, at) → Contains (keys ws) person

  key_of : (ws : List (List ℕ × Option Reason)) (person : List ℕ) (why : Option Reason) → Contains ws (person, why) → Contains (keys ws) person
  key_of ws person why there = contains_map (λ (w : List ℕ × Option Reason). w.0) ws (person, why) there

  above : (p person : List ℕ) (ps : List (List ℕ)) → AllByRecursion (λ y. text_order p y ≡ Less) ps → Contains ps person → text_order p person ≡ Less
  above p person ps all there = All-contains (λ y. text_order p y ≡ Less) ps person (All-from_recursion (λ y. text_order p y ≡ Less) ps all) there

  -- a person who comes later in byte order is somebody else
  differs : (p person : List ℕ) → text_order p person ≡ Less → person ≡ p → ⊥
  differs p person e same = not_below_itself p (subst (λ (x : List ℕ). text_order p x ≡ Less) same e)

  rising_more : (p : List ℕ) (ps : List (List ℕ)) → AllByRecursion (λ y. text_order p y ≡ Less) ps
      → IsStrictlySortedBy text_order ps → IsStrictlySortedBy text_order (p ∷ ps)
  unfolding IsStrictlySortedBy
  rising_more p ps all rising = (all, rising)

  in_front : (a : List ℕ × ℕ) (others : List (List ℕ × ℕ)) (ws : List (List ℕ × Option Reason))
      → AllByRecursion (λ y. text_order a.0 y ≡ Less) (keys ws) → WhysAre others ws → WhysAre (a ∷ others) ((a.0, reason f c asker a.0 a.1) ∷ ws)
  in_front a others ws low was = record {
    rising = rising_more a.0 (keys ws) low was.rising;
    each = λ person why there. elim (cases_behind (a.0, (reason f c asker a.0 a.1)) ws (person, why) there)
        as (λ _. IsWhy f c asker person (λ at. Contains (a ∷ others) (person, at)) why) [
          | inl same ↦ subst (λ (w : List ℕ × Option Reason). IsWhy f c asker w.0 (λ at. Contains (a ∷ others) (w.0, at)) w.1) same
              (alone a others (reason f c asker a.0 a.1) refl none)
          | inr more ↦
              of_another a others person why (differs a.0 person (above a.0 person (keys ws) low (key_of ws person why more))) (was.each person why more)
        ];
    all = λ person at there. elim (cases_behind a others (person, at) there) as (λ _. Contains (a.0 ∷ keys ws) person) [
      | inl same ↦ subst (λ (x : List ℕ × ℕ). Contains (a.0 ∷ keys ws) x.0) same (Contains-head a.0 (keys ws))
      | inr more ↦ Contains-behind a.0 (keys ws) person (was.all person at more)
    ];
  }
    where
      none : (at : ℕ) → Contains others (a.0, at) → ⊥
      none at there = not_below_itself a.0 (above a.0 a.0 (keys ws) low (was.all a.0 at there))

  one_more : (a : List ℕ × ℕ) (others : List (List ℕ × ℕ)) (w : List ℕ × Option Reason) (ws : List (List ℕ × Option Reason)) → w.0 ≡ a.0
      → IsStrictlySortedBy approval_cmp (a ∷ others) → WhysAre others (w ∷ ws) → WhysAre (a ∷ others) ((a.0, both (reason f c asker a.0 a.1) w.1) ∷ ws)
  one_more a others w ws same sorted was = record {
    rising = subst (λ (p : List ℕ). IsStrictlySortedBy text_order (p ∷ keys ws)) same was.rising;
    each = λ person why there. elim (cases_behind (a.0, both (reason f c asker a.0 a.1) w.1) ws (person, why) there)
        as (λ _. IsWhy f c asker person (λ at. Contains (a ∷ others) (person, at)) why) [
          | inl is ↦ subst (λ (x : List ℕ × Option Reason). IsWhy f c asker x.0 (λ at. Contains (a ∷ others) (x.0, at)) x.1) is
              (with_later a others (reason f c asker a.0 a.1) w.1 refl (λ at more. no_later a at others sorted more)
              (subst (λ (p : List ℕ). IsWhy f c asker p (λ at. Contains others (p, at)) w.1) same (was.each w.0 w.1 (Contains-head w ws))))
          | inr more ↦ of_another a others person why (λ e.
              differs w.0 person (above w.0 person (keys ws) (sorted_head text_order w.0 (keys ws) was.rising) (key_of ws person why more)) (e ∙ sym same))
              (was.each person why (Contains-behind w ws (person, why) more))
        ];
    all = λ person at there. elim (cases_behind a others (person, at) there) as (λ _. Contains (a.0 ∷ keys ws) person) [
      | inl is ↦ subst (λ (x : List ℕ × ℕ). Contains (a.0 ∷ keys ws) x.0) is (Contains-head a.0 (keys ws))
      | inr more ↦ subst (λ (p : List ℕ). Contains (p ∷ keys ws) person) same (was.all person at more)
    ];
  }

  all_above : (p q : List ℕ) (ps : List (List ℕ)) → text_order p q ≡ Less
      → AllByRecursion (λ y. text_order q y ≡ Less) ps → AllByRecursion (λ y. text_order p y ≡ Less) ps
  all_above p q [] e all = tt
  all_above p q (x ∷ xs) e all = (nat_list_cmp_total.trans p q x e all.0, all_above p q xs e all.1)

  -- whoever comes next and is somebody else comes after
  next_above : (a : List ℕ × ℕ) (others : List (List ℕ × ℕ)) (person : List ℕ) (at : ℕ) → bytes_eq person a.0 ≡ false
      → IsStrictlySortedBy approval_cmp (a ∷ others) → Contains others (person, at) → text_order a.0 person ≡ Less
  next_above a others person at other sorted there =
      elim (then_less (text_order a.0 person) (nat_cmp a.1 at) (after a (person, at) others sorted there)) as (λ _. text_order a.0 person ≡ Less) [
        | inl below ↦ below
        | inr tie ↦
            let same : a.0 ≡ person = slice_cmp-IsAntisymmetric nat_cmp-IsAntisymmetric a.0 person tie.0 in
            absurd (both_ways _ other ((bytes_eq-Decides person a.0).1 (sym same)))
      ]

  joined_are : (a : List ℕ × ℕ) (others : List (List ℕ × ℕ)) (ws : List (List ℕ × Option Reason))
      → IsStrictlySortedBy approval_cmp (a ∷ others) → WhysAre others ws → WhysAre (a ∷ others) (joined a.0 (reason f c asker a.0 a.1) ws)
  joined_are a others [] sorted was = in_front a others [] tt was
  joined_are a others (w ∷ ws) sorted was =
      let own = reason f c asker a.0 a.1 in
      elim (cases_Bool (bytes_eq w.0 a.0)) as (λ _. WhysAre (a ∷ others) (joined a.0 own (w ∷ ws))) [
        | inl same ↦ subst (WhysAre (a ∷ others)) (sym (cond-true (bytes_eq w.0 a.0) ((a.0, both own w.1) ∷ ws) ((a.0, own) ∷ w ∷ ws) same))
            (one_more a others w ws ((bytes_eq-Decides w.0 a.0).0 same) sorted was)
        | inr other ↦
            let first = has_one w.0 (λ at. Contains others (w.0, at)) w.1 (was.each w.0 w.1 (Contains-head w ws)) in
            let low : text_order a.0 w.0 ≡ Less = next_above a others w.0 first.0 other sorted first.1 in
            subst (WhysAre (a ∷ others)) (sym (cond-false (bytes_eq w.0 a.0) ((a.0, both own w.1) ∷ ws) ((a.0, own) ∷ w ∷ ws) other))
            (in_front a others (w ∷ ws) (low, all_above a.0 w.0 (keys ws) low (sorted_head text_order w.0 (keys ws) was.rising)) was)
      ]

  nothing_rises : IsStrictlySortedBy text_order []
  unfolding IsStrictlySortedBy
  nothing_rises = tt

  whys_are : (others : List (List ℕ × ℕ)) → IsStrictlySortedBy approval_cmp others → WhysAre others (whys (reason f c asker) others)
  whys_are [] sorted = record {
    rising = nothing_rises;
    each = λ person why there. absurd (nothing_there (person, why) there);
    all = λ person at there. absurd (nothing_there (person, at) there);
  }
  whys_are (a ∷ others) sorted = joined_are a others (whys (reason f c asker) others) sorted (whys_are others (sorted_tail approval_cmp a others sorted))

-- ---- the approvals of a request

why_of : (ws : List (List ℕ × Option Reason)) (person : List ℕ) → Contains (keys ws) person → (why : Option Reason) × Contains ws (person, why)
why_of [] person there = absurd (nothing_there person there)
why_of (w ∷ ws) person there =
    elim (cases_behind w.0 (keys ws) person there) as (λ _. (why : Option Reason) × Contains (w ∷ ws) (person, why)) [
      | inl same ↦ (w.1, subst (λ (p : List ℕ). Contains (w ∷ ws) (p, w.1)) same (Contains-head w ws))
      | inr more ↦ let found = why_of ws person more in (found.0, Contains-behind w ws (person, found.0) found.1)
    ]

module _ (f : RosterFields Cmnd) (set : List Message) (c : CeilingFields Cmnd) (q : RequestFields) where
  pub their_lines : (ws : List (List ℕ × Option Reason))
      → ((person : List ℕ) (why : Option Reason) → Contains ws (person, why) → IsWhy f c q.by person (HasApprovedAt set q person) why)
      → AreParts (AreBarredLines f set c q) (map (λ w. w.0) ws) (flat_map (λ w. barred_for q w.0 w.1) ws)
  their_lines [] each = refl
  their_lines (w ∷ ws) each = (
    barred_for q w.0 w.1,
    flat_map (λ (x : List ℕ × Option Reason). barred_for q x.0 x.1) ws,
    refl,
    (w.1, each w.0 w.1 (Contains-head w ws), refl),
    their_lines ws (λ person why there. each person why (Contains-behind w ws (person, why) there)),
  )

  module _ (others : List (List ℕ × ℕ)) (are : AreApprovals set q others) where
    each_why : (person : List ℕ) (why : Option Reason) → Contains (whys (reason f c q.by) others) (person, why)
        → IsWhy f c q.by person (HasApprovedAt set q person) why
    each_why person why there =
        alike f c q.by person (λ at. Contains others (person, at)) (HasApprovedAt set q person) (λ at. (are.each person at).0)
        (λ at. (are.each person at).1) why ((whys_are f c q.by others are.in_order).each person why there)

    pub approvers_are : AreAll text_order (HasApproved set q) (map (λ w. w.0) (whys (reason f c q.by) others))
    approvers_are = record {
      in_order = (whys_are f c q.by others are.in_order).rising;
      each = λ person there.
          let found = why_of (whys (reason f c q.by) others) person there in
          has_one f c q.by person (HasApprovedAt set q person) found.0 (each_why person found.0 found.1);
      all = λ person is. (whys_are f c q.by others are.in_order).all person is.0 ((are.each person is.0).1 is.1);
    }

    pub barred_are : AreParts (AreBarredLines f set c q) (map (λ w. w.0) (whys (reason f c q.by) others))
        (flat_map (λ w. barred_for q w.0 w.1) (whys (reason f c q.by) others))
    barred_are = their_lines (whys (reason f c q.by) others) each_why
