-- A request is complete at the n-th smallest of the moments at which eligible people first approved it.
use Rattle.std.proofs.Common.{◌≡◌, ℕ, zero, suc, ◌≤◌, ◌<◌, ◌⊎◌, Bool, true, false, ◌&&◌, nat_le, if◌then◌else◌, List}
use Rattle.std.proofs.Common.{[], ◌∷◌, Option, Some, None, refl, sym, ap, ◌∙◌, subst, inl, inr, true≢false, arith}
use Rattle.std.specs.List.{Contains}
use Rattle.std.specs.Str.{bytes_eq}
use Rattle.std.proofs.lemmas.Bool.{cases_Bool, and_parts, and_from, cond-true, cond-false, leb-true, leb-false, le-leb}
use Rattle.std.proofs.lemmas.Slice.Eq.{bytes_eq-Decides}
use Rattle.sudo_words.specs.declared.cmnd.Cmnd.{Cmnd}
use Rattle.messages.specs.Fields.{RequestFields, VerdictFields}
use Rattle.messages.specs.declared.message.Message.{Message}
use Rattle.messages.specs.declared.message.Message.TheVariants.{Request, Verdict}
use Rattle.messages.specs.declared.kind.VerdictKind.{VerdictKind}
use Rattle.messages.specs.declared.kind.VerdictKind.TheVariants.{Approve, Refuse, Revoke}
use Rattle.roster.specs.Fields.{CeilingFields, RosterFields}
use Rattle.grants.specs.Verdicts.{counts, IsGiven, HasGiven, AtLeast, IsComplete}
use Rattle.grants.specs.Completion.{IsFirstApproval, IsNthSmallest}
use Rattle.grants.proofs.MemberCases.{nothing_there, cases_behind}
use Rattle.grants.proofs.Members.{Contains-head, Contains-behind}
use Rattle.grants.proofs.StatusLaws.{at_least_more}
use Rattle.grants.proofs.StatusLemmas.{IsUnder, given_counts, approved_people}

-- ---- the least moment that the messages of a list have

abbrev Least : (Message → Option ℕ) → List Message → Type 0
Least time set =
    ((m : Message) → Contains set m → time m ≡ None)
    ⊎ ((n : ℕ) × ((m : Message) × Contains set m × (time m ≡ Some n)) × ((m : Message) (o : ℕ) → Contains set m → time m ≡ Some o → n ≤ o))

one_moment : (a b : ℕ) → ◌≡◌ {A = Option ℕ} (Some a) (Some b) → a ≡ b
one_moment a b e = cc

not_none : (a : ℕ) → ◌≡◌ {A = Option ℕ} None (Some a) → ⊥
not_none a e = absurd cc

one_more : (time : Message → Option ℕ) (x : Message) (set : List Message) (o : Option ℕ) → time x ≡ o → Least time set → Least time (x ∷ set)
one_more time x set None e (inl none) =
    inl (λ m h. elim (cases_behind x set m h) as (λ _. time m ≡ None) [ inl same ↦ ap time (sym same) ∙ e | inr there ↦ none m there ])
one_more time x set None e (inr r) = inr (
  r.0,
  (r.1.0, Contains-behind x set r.1.0 r.1.1, r.1.2),
  λ m o h is. elim (cases_behind x set m h) as (λ _. r.0 ≤ o) [
    | inl same ↦ absurd (not_none o (sym e ∙ ap time same ∙ is))
    | inr there ↦ r.2 m o there is
  ],
)
one_more time x set (Some k) e (inl none) = inr (
  k,
  (x, Contains-head x set, e),
  λ m o h is. elim (cases_behind x set m h) as (λ _. k ≤ o) [
    | inl same ↦ let at = one_moment k o (sym e ∙ ap time same ∙ is) in omega (arith, at)
    | inr there ↦ absurd (not_none o (sym (none m there) ∙ is))
  ],
)
one_more time x set (Some k) e (inr r) =
    let here : (m : Message) (o : ℕ) → x ≡ m → time m ≡ Some o → k ≡ o = λ m o same is. one_moment k o (sym e ∙ ap time same ∙ is) in
    elim (cases_Bool (nat_le k r.0)) as (λ _. Least time (x ∷ set)) [
      | inl low ↦ inr (
        k,
        (x, Contains-head x set, e),
        λ m o h is. elim (cases_behind x set m h) as (λ _. k ≤ o) [
          | inl same ↦ let at = here m o same is in omega (arith, at)
          | inr there ↦ omega (arith, leb-true k r.0 low, r.2 m o there is)
        ],
      )
      | inr high ↦ inr (
        r.0,
        (r.1.0, Contains-behind x set r.1.0 r.1.1, r.1.2),
        λ m o h is. elim (cases_behind x set m h) as (λ _. r.0 ≤ o) [
          | inl same ↦ let at = here m o same is in omega (arith, at, leb-false k r.0 high)
          | inr there ↦ r.2 m o there is
        ],
      )
    ]

least : (time : Message → Option ℕ) (set : List Message) → Least time set
least time [] = inl (λ m h. absurd (nothing_there m h))
least time (x ∷ set) = one_more time x set (time x) refl (least time set)

-- ---- the approvals of one person that count

abbrev is_approve : VerdictKind → Bool
is_approve Approve = true
is_approve Refuse = false
is_approve Revoke = false

approve_is : (kind : VerdictKind) → is_approve kind ≡ true → kind ≡ Approve
approve_is Approve e = refl
approve_is Refuse e = absurd (true≢false (sym e))
approve_is Revoke e = absurd (true≢false (sym e))

abbrev same_number : ℕ → ℕ → Bool
same_number a b = nat_le a b && nat_le b a

abbrev approves : RosterFields Cmnd → CeilingFields Cmnd → RequestFields → List ℕ → VerdictFields → Bool
approves f c q person v =
    bytes_eq v.of q.by && (same_number v.no q.no && (is_approve v.kind && (bytes_eq v.by person && counts f c v)))

abbrev time_of : RosterFields Cmnd → CeilingFields Cmnd → RequestFields → List ℕ → Message → Option ℕ
time_of f c q person (Request r) = None
time_of f c q person (Verdict v) = if approves f c q person v then Some v.at else None

does_approve : (f : RosterFields Cmnd) (c : CeilingFields Cmnd) (set : List Message) (q : RequestFields) (person : List ℕ) (v : VerdictFields)
    → IsUnder f q c → IsGiven f set q Approve v → v.by ≡ person → approves f c q person v ≡ true
does_approve f c set q person v at g by =
    let no : v.no ≡ q.no = g.about.1 in
    and_from _ _ ((bytes_eq-Decides v.of q.by).1 g.about.0)
    (and_from _ _ (and_from _ _ (le-leb v.no q.no (omega (arith, no))) (le-leb q.no v.no (omega (arith, no))))
    (and_from _ _ (ap is_approve g.kind_is)
    (and_from _ _ ((bytes_eq-Decides v.by person).1 by) (given_counts f c set q Approve v at g))))

is_time : (f : RosterFields Cmnd) (c : CeilingFields Cmnd) (set : List Message) (q : RequestFields) (person : List ℕ) (v : VerdictFields)
    → IsUnder f q c → IsGiven f set q Approve v → v.by ≡ person → time_of f c q person (Verdict v) ≡ Some v.at
is_time f c set q person v at g by = cond-true _ (Some v.at) None (does_approve f c set q person v at g by)

-- a message that has a moment is an approval
approval_at : (f : RosterFields Cmnd) (c : CeilingFields Cmnd) (q : RequestFields) (person : List ℕ) (m : Message) (n : ℕ)
    → time_of f c q person m ≡ Some n → (v : VerdictFields) × (m ≡ Verdict v) × (approves f c q person v ≡ true) × (v.at ≡ n)
approval_at f c q person (Request r) n e = absurd (not_none n e)
approval_at f c q person (Verdict v) n e =
    elim (cases_Bool (approves f c q person v))
    as (λ _. (w : VerdictFields) × (◌≡◌ {A = Message} (Verdict v) (Verdict w)) × (approves f c q person w ≡ true) × (w.at ≡ n)) [
      | inl does ↦ (v, refl, does, one_moment v.at n (sym (cond-true _ (Some v.at) None does) ∙ e))
      | inr fails ↦ absurd (not_none n (sym (cond-false _ (Some v.at) None fails) ∙ e))
    ]

given_by : (f : RosterFields Cmnd) (c : CeilingFields Cmnd) (set : List Message) (q : RequestFields) (person : List ℕ) (v : VerdictFields)
    → IsUnder f q c → Contains set (Verdict v) → approves f c q person v ≡ true → IsGiven f set q Approve v × (v.by ≡ person)
given_by f c set q person v at asked e =
    let of = and_parts (bytes_eq v.of q.by) (same_number v.no q.no && (is_approve v.kind && (bytes_eq v.by person && counts f c v))) e in
    let no = and_parts (same_number v.no q.no) (is_approve v.kind && (bytes_eq v.by person && counts f c v)) of.1 in
    let both = and_parts (nat_le v.no q.no) (nat_le q.no v.no) no.0 in
    let kind = and_parts (is_approve v.kind) (bytes_eq v.by person && counts f c v) no.1 in
    let by = and_parts (bytes_eq v.by person) (counts f c v) kind.1 in
    let number : v.no ≡ q.no = omega (arith, leb-true v.no q.no both.0, leb-true q.no v.no both.1) in (
      record {
        given = asked;
        about = ((bytes_eq-Decides v.of q.by).0 of.0, number);
        kind_is = approve_is v.kind kind.0;
        ceiling = c;
        ceiling_is = at;
        counts_is = by.1;
      },
      (bytes_eq-Decides v.by person).0 by.0,
    )

-- whoever has approved has a first approval
pub first_approval : (f : RosterFields Cmnd) (c : CeilingFields Cmnd) (set : List Message) (q : RequestFields) (person : List ℕ) (moment : ℕ)
    → IsUnder f q c → HasGiven f set q Approve moment person → (m : ℕ) × IsFirstApproval f set q person m × (m ≤ moment)
first_approval f c set q person moment at h =
    elim (least (time_of f c q person) set) as (λ _. (m : ℕ) × IsFirstApproval f set q person m × (m ≤ moment)) [
      | inl none ↦ absurd (not_none h.verdict.at (sym (none (Verdict h.verdict) h.given.given) ∙ is_time f c set q person h.verdict at h.given h.by_is))
      | inr r ↦
          let is = approval_at f c q person r.1.0 r.0 r.1.2 in
          let asked : Contains set (Verdict is.0) = subst (λ (m : Message). Contains set m) is.1 r.1.1 in
          let given = given_by f c set q person is.0 at asked is.2 in
          let low : (other : ℕ) → HasGiven f set q Approve other person → r.0 ≤ other = λ other g.
          omega (arith, g.by_then, r.2 (Verdict g.verdict) g.verdict.at g.given.given (is_time f c set q person g.verdict at g.given g.by_is)) in (
            r.0,
            record {
              given = record { verdict = is.0; given = given.0; by_is = given.1; by_then = omega (arith, is.3) };
              least = low;
            },
            low moment h,
          )
    ]

-- ---- the law

later_given : (f : RosterFields Cmnd) (set : List Message) (q : RequestFields) (person : List ℕ) (early late : ℕ)
    → early ≤ late → HasGiven f set q Approve early person → HasGiven f set q Approve late person
later_given f set q person early late le h =
    record { verdict = h.verdict; given = h.given; by_is = h.by_is; by_then = omega (arith, le, h.by_then) }

nobody : (n : ℕ) (P : List ℕ → Type 0) → 1 ≤ n → ((person : List ℕ) → P person → ⊥) → AtLeast n P → ⊥
nobody zero P some none h = absurd (omega (arith, some))
nobody (suc n) P some none h = none h.0 h.1

abbrev Before : RosterFields Cmnd → List Message → RequestFields → ℕ → List ℕ → Type 0
Before f set q moment person = (m : ℕ) × IsFirstApproval f set q person m × (m < moment)

abbrev By : RosterFields Cmnd → List Message → RequestFields → ℕ → List ℕ → Type 0
By f set q moment person = (m : ℕ) × IsFirstApproval f set q person m × (m ≤ moment)

fewer : (f : RosterFields Cmnd) (c : CeilingFields Cmnd) (set : List Message) (q : RequestFields) (moment : ℕ)
    → IsUnder f q c → 1 ≤ c.needs → IsComplete f set q moment → AtLeast c.needs (Before f set q moment) → ⊥
fewer f c set q zero at some is h =
    nobody c.needs (Before f set q 0) some (λ person x. absurd (omega (arith, x.2))) h
fewer f c set q (suc moment) at some is h =
    let sooner : suc moment ≤ moment = is.least moment (record {
      ceiling = c;
      ceiling_is = at;
      people = at_least_more c.needs (Before f set q (suc moment)) (HasGiven f set q Approve moment)
          (λ person x. later_given f set q person x.0 moment (omega (arith, x.2)) x.1.given) h;
    }) in
    absurd (omega (arith, sooner))

pub complete_at_nth : (f : RosterFields Cmnd) (set : List Message) (q : RequestFields) (c : CeilingFields Cmnd) (moment : ℕ)
    → IsUnder f q c → 1 ≤ c.needs → IsComplete f set q moment → IsNthSmallest c.needs (IsFirstApproval f set q) moment
complete_at_nth f set q c moment at some is = record {
  enough = at_least_more c.needs (HasGiven f set q Approve moment) (By f set q moment)
      (λ person h. first_approval f c set q person moment at h) (approved_people f c set q moment at is.approved);
  fewer = fewer f c set q moment at some is;
}

pub nth_completes : (f : RosterFields Cmnd) (set : List Message) (q : RequestFields) (c : CeilingFields Cmnd) (moment : ℕ)
    → IsUnder f q c → IsNthSmallest c.needs (IsFirstApproval f set q) moment → IsComplete f set q moment
nth_completes f set q c moment at nth = record {
  approved = record {
    ceiling = c;
    ceiling_is = at;
    people = at_least_more c.needs (By f set q moment) (HasGiven f set q Approve moment)
        (λ person x. later_given f set q person x.0 moment x.2 x.1.given) nth.enough;
  };
  least = λ other a.
      elim (cases_Bool (nat_le moment other)) as (λ _. moment ≤ other) [
        | inl low ↦ leb-true moment other low
        | inr high ↦ absurd (nth.fewer (at_least_more c.needs (HasGiven f set q Approve other) (Before f set q moment) (λ person h.
            let first = first_approval f c set q person other at h in
            (first.0, first.1, omega (arith, first.2, leb-false moment other high))) (approved_people f c set q other at a)))
      ];
}
