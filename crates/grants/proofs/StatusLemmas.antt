-- What the marks of a summary come to is what the set comes to.
use Rattle.std.proofs.Common.{◌≡◌, ℕ, zero, suc, ◌≤◌, max, true, false, nat_le, List, Option, Some, None, refl, sym, ap, ◌∙◌, subst, inl, inr, arith}
use Rattle.std.specs.List.{Contains}
use Rattle.std.specs.Option.{MatchOption}
use Rattle.std.proofs.lemmas.Bool.{cases_Bool, and_parts, and_from, both_ways, cond_both, leb-true, leb-false, le-leb}
use Rattle.sudo_words.specs.declared.cmnd.Cmnd.{Cmnd}
use Rattle.messages.specs.Fields.{RequestFields, VerdictFields}
use Rattle.messages.specs.Names.{name_of, IsAbout}
use Rattle.messages.specs.declared.message.Message.{Message}
use Rattle.messages.specs.declared.message.Message.TheVariants.{Verdict}
use Rattle.messages.specs.declared.kind.VerdictKind.{VerdictKind}
use Rattle.messages.specs.declared.kind.VerdictKind.TheVariants as kinds
use Rattle.roster.specs.Fields.{CeilingFields, RosterFields}
use Rattle.roster.specs.Relations.{ceiling_at}
use Rattle.grants.specs.Admission.{AdmitsRequest}
use Rattle.grants.specs.Verdicts.{counts, StandsAlone, IsDisputed, IsGiven, HasGiven, AtLeast, ApprovedBy, IsComplete, IsRefused, RevokedBy}
use Rattle.grants.specs.Statuses.{IsFirstMoment, IsLastMoment, IsAdmitted, IsLapsed, IsVoid, NeverComplete, IsStatus}
use Rattle.grants.specs.Marks.{verdict_of, Keep}
use Rattle.grants.specs.private.Firsts.{has_counting, nth_of}
use Rattle.grants.specs.Summaries.{Kept, StandsFor}
use Rattle.grants.specs.private.Status.{is_in_time, refuses, is_refused, before, end_of, window, from_complete, completion, revocation, admitted_status}
use Rattle.grants.specs.declared.marks.Mark.{Mark}
use Rattle.grants.specs.declared.outcome.Status.TheVariants.{Refused, Void, Granted}
use Rattle.grants.proofs.MarkLemmas.{mark_of, verdict_again}
use Rattle.grants.proofs.Members.{one_passes, passes}
use Rattle.grants.proofs.NthLemmas.{HasBy, IsNth, nth_is, nth_same}
use Rattle.grants.proofs.StatusLaws.{at_least_more}

-- ---- the ceiling of a request

abbrev pub IsUnder : RosterFields Cmnd → RequestFields → CeilingFields Cmnd → Type 0
IsUnder f q c = ceiling_at f q.ceiling ≡ Some c

one_ceiling : (f : RosterFields Cmnd) (q : RequestFields) (c d : CeilingFields Cmnd) → IsUnder f q c → IsUnder f q d → d ≡ c
one_ceiling f q c d at other = one_some d c (sym other ∙ at)
  where
    one_some : (x y : CeilingFields Cmnd) → ◌≡◌ {A = Option (CeilingFields Cmnd)} (Some x) (Some y) → x ≡ y
    one_some x y e = cc

-- ---- verdicts and marks

counts_as : (f : RosterFields Cmnd) (c : CeilingFields Cmnd) (q : RequestFields) (kind : VerdictKind) (v : VerdictFields)
    → IsAbout q v → v.kind ≡ kind → counts f c v ≡ true → has_counting f c kind q.by (mark_of v) ≡ true
counts_as f c q kind v about is h = rw (← is, ← about.0) h

pub given_counts : (f : RosterFields Cmnd) (c : CeilingFields Cmnd) (set : List Message) (q : RequestFields) (kind : VerdictKind) (v : VerdictFields)
    → IsUnder f q c → IsGiven f set q kind v → counts f c v ≡ true
given_counts f c set q kind v at g =
    subst (λ (d : CeilingFields Cmnd). counts f d v ≡ true) (one_ceiling f q c g.ceiling at g.ceiling_is) g.counts_is

-- a verdict is that of its mark
verdict_as : (q : RequestFields) (kind : VerdictKind) (v : VerdictFields) → IsAbout q v → v.kind ≡ kind → v ≡ verdict_of q kind (mark_of v)
verdict_as q kind v about is = sym (verdict_again q v about) ∙ ap (λ (x : VerdictKind). verdict_of q x (mark_of v)) is

-- a verdict that counts has its mark, which passes
marked : (f : RosterFields Cmnd) (set : List Message) (q : RequestFields) (kind : VerdictKind) (marks : List Mark) (v : VerdictFields)
    → Keep set q kind marks → IsGiven f set q kind v → Contains marks (mark_of v)
marked f set q kind marks v k g =
    (k.each (mark_of v)).1 (subst (λ (w : VerdictFields). Contains set (Verdict w)) (verdict_as q kind v g.about g.kind_is) g.given)

passes_as : (f : RosterFields Cmnd) (c : CeilingFields Cmnd) (set : List Message) (q : RequestFields) (kind : VerdictKind) (v : VerdictFields)
    → IsUnder f q c → IsGiven f set q kind v → has_counting f c kind q.by (mark_of v) ≡ true
passes_as f c set q kind v at g = counts_as f c q kind v g.about g.kind_is (given_counts f c set q kind v at g)

given_mark : (f : RosterFields Cmnd) (c : CeilingFields Cmnd) (set : List Message) (q : RequestFields) (kind : VerdictKind) (marks : List Mark) (r : Mark)
    → IsUnder f q c → Keep set q kind marks → Contains marks r → has_counting f c kind q.by r ≡ true → IsGiven f set q kind (verdict_of q kind r)
given_mark f c set q kind marks r at k m e =
    record { given = (k.each r).0 m; about = (refl, refl); kind_is = refl; ceiling = c; ceiling_is = at; counts_is = e }

module _ (f : RosterFields Cmnd) (c : CeilingFields Cmnd) (set : List Message)
    (q : RequestFields) (kind : VerdictKind) (marks : List Mark) (at : IsUnder f q c) (k : Keep set q kind marks) where
  abbrev Marked : ℕ → List ℕ → Type 0
  Marked = HasBy (has_counting f c kind q.by) marks

  pub has_mark : (moment : ℕ) (person : List ℕ) → HasGiven f set q kind moment person → Marked moment person
  has_mark moment person h = record {
    mark = mark_of h.verdict;
    among = marked f set q kind marks h.verdict k h.given;
    passes = passes_as f c set q kind h.verdict at h.given;
    person_is = h.by_is;
    by_then = h.by_then;
  }

  pub has_verdict : (moment : ℕ) (person : List ℕ) → Marked moment person → HasGiven f set q kind moment person
  has_verdict moment person h = record {
    verdict = verdict_of q kind h.mark;
    given = given_mark f c set q kind marks h.mark at k h.among h.passes;
    by_is = h.person_is;
    by_then = h.by_then;
  }

  -- the n-th smallest moment is the least by which n different people have given a verdict that counts
  pub nth_given : (n : ℕ) → 1 ≤ n → IsNth n (HasGiven f set q kind) (nth_of (has_counting f c kind q.by) n marks)
  nth_given n some =
      nth_same n Marked (HasGiven f set q kind) (λ moment. at_least_more n (Marked moment) (HasGiven f set q kind moment) (has_verdict moment))
      (λ moment. at_least_more n (HasGiven f set q kind moment) (Marked moment) (has_mark moment)) (nth_of (has_counting f c kind q.by) n marks)
      (nth_is (has_counting f c kind q.by) marks n some)

-- ---- completion

abbrev Completes : RosterFields Cmnd → List Message → RequestFields → Option ℕ → Type 0
Completes f set q o = MatchOption o (NeverComplete f set q) (IsComplete f set q)

pub approved_people : (f : RosterFields Cmnd) (c : CeilingFields Cmnd) (set : List Message) (q : RequestFields) (moment : ℕ)
    → IsUnder f q c → ApprovedBy f set q moment → AtLeast c.needs (HasGiven f set q kinds.Approve moment)
approved_people f c set q moment at a =
    subst (λ (d : CeilingFields Cmnd). AtLeast d.needs (HasGiven f set q kinds.Approve moment)) (one_ceiling f q c a.ceiling at a.ceiling_is) a.people

pub completes : (f : RosterFields Cmnd) (c : CeilingFields Cmnd) (set : List Message) (k : Kept)
    → IsUnder f k.request c → 1 ≤ c.needs → StandsFor set k → Completes f set k.request (completion f c k)
completes f c set k at some s = of (completion f c k) (nth_given f c set k.request kinds.Approve k.approvals at s.approvals c.needs some)
  where
    of : (o : Option ℕ) → IsNth c.needs (HasGiven f set k.request kinds.Approve) o → Completes f set k.request o
    of None none = λ moment h. none moment (approved_people f c set k.request moment at h.approved)
    of (Some moment) is = record {
      approved = record { ceiling = c; ceiling_is = at; people = is.0 };
      least = λ other h. is.1 other (approved_people f c set k.request other at h);
    }

-- ---- refusals

in_time : (f : RosterFields Cmnd) (set : List Message) (q : RequestFields) (o : Option ℕ) (at : ℕ)
    → Completes f set q o → is_in_time o at ≡ true → (moment : ℕ) → IsComplete f set q moment → at ≤ moment
in_time f set q None at none e moment h = absurd (none moment h)
in_time f set q (Some complete) at is e moment h =
    omega (arith, leb-true at complete e, is.least moment h.approved)

was_in_time : (f : RosterFields Cmnd) (set : List Message) (q : RequestFields) (o : Option ℕ) (at : ℕ)
    → Completes f set q o → ((moment : ℕ) → IsComplete f set q moment → at ≤ moment) → is_in_time o at ≡ true
was_in_time f set q None at none h = refl
was_in_time f set q (Some complete) at is h = le-leb at complete (h complete is)

refused_yes : (f : RosterFields Cmnd) (c : CeilingFields Cmnd) (set : List Message) (q : RequestFields) (o : Option ℕ) (marks : List Mark) → IsUnder f q c
    → Completes f set q o → Keep set q kinds.Refuse marks → is_refused (has_counting f c kinds.Refuse q.by) o marks ≡ true → IsRefused f set q
refused_yes f c set q o marks under is k e =
    let test = has_counting f c kinds.Refuse q.by in
    let found = one_passes (refuses test o) marks e in
    let parts = and_parts (is_in_time o found.0.at) (test found.0) found.2 in
    record {
      verdict = verdict_of q kinds.Refuse found.0;
      given = given_mark f c set q kinds.Refuse marks found.0 under k found.1 parts.1;
      in_time = in_time f set q o found.0.at is parts.0;
    }

refused_not : (f : RosterFields Cmnd) (c : CeilingFields Cmnd) (set : List Message) (q : RequestFields) (o : Option ℕ) (marks : List Mark) → IsUnder f q c
    → Completes f set q o → Keep set q kinds.Refuse marks → is_refused (has_counting f c kinds.Refuse q.by) o marks ≡ false → ¬ IsRefused f set q
refused_not f c set q o marks under is k e = λ h.
    let test = has_counting f c kinds.Refuse q.by in
    both_ways _ e (passes (refuses test o) marks (mark_of h.verdict) (marked f set q kinds.Refuse marks h.verdict k h.given)
    (and_from _ _ (was_in_time f set q o h.verdict.at is h.in_time) (passes_as f c set q kinds.Refuse h.verdict under h.given)))

-- ---- windows

pub later_too : (f : RosterFields Cmnd) (set : List Message) (q : RequestFields) (early late : ℕ)
    → early ≤ late → RevokedBy f set q early → RevokedBy f set q late
later_too f set q early late le h =
    record { verdict = h.verdict; given = h.given; by_then = omega (arith, le, h.by_then) }

abbrev Revokes : RosterFields Cmnd → List Message → RequestFields → Option ℕ → Type 0
Revokes f set q o =
    MatchOption o ((moment : ℕ) → ¬ RevokedBy f set q moment) (λ moment. RevokedBy f set q moment × ((other : ℕ) → RevokedBy f set q other → moment ≤ other))

one_of : (f : RosterFields Cmnd) (set : List Message) (q : RequestFields) (moment : ℕ)
    → RevokedBy f set q moment → AtLeast 1 (HasGiven f set q kinds.Revoke moment)
one_of f set q moment h =
    (h.verdict.by, record { verdict = h.verdict; given = h.given; by_is = refl; by_then = h.by_then }, tt)

of_one : (f : RosterFields Cmnd) (set : List Message) (q : RequestFields) (moment : ℕ)
    → AtLeast 1 (HasGiven f set q kinds.Revoke moment) → RevokedBy f set q moment
of_one f set q moment h = record { verdict = h.1.verdict; given = h.1.given; by_then = h.1.by_then }

revokes : (f : RosterFields Cmnd) (c : CeilingFields Cmnd) (set : List Message) (q : RequestFields) (marks : List Mark)
    → IsUnder f q c → Keep set q kinds.Revoke marks → Revokes f set q (nth_of (has_counting f c kinds.Revoke q.by) 1 marks)
revokes f c set q marks at k = of (nth_of (has_counting f c kinds.Revoke q.by) 1 marks) (nth_given f c set q kinds.Revoke marks at k 1 (omega arith))
  where
    of : (o : Option ℕ) → IsNth 1 (HasGiven f set q kinds.Revoke) o → Revokes f set q o
    of None none = λ moment h. none moment (one_of f set q moment h)
    of (Some moment) is = (of_one f set q moment is.0, λ other h. is.1 other (one_of f set q other h))

-- the last moment up to `until` that is not revoked
abbrev Ends : RosterFields Cmnd → List Message → RequestFields → Option ℕ → Type 0
Ends f set q o = MatchOption o ((moment : ℕ) → moment ≤ q.until → (RevokedBy f set q moment → ⊥)
    → ⊥) (λ last. (last ≤ q.until) × (RevokedBy f set q last → ⊥) × ((moment : ℕ) → moment ≤ q.until → (RevokedBy f set q moment → ⊥) → moment ≤ last))

cut : (f : RosterFields Cmnd) (set : List Message) (q : RequestFields) (m : ℕ) → Revokes f set q (Some m) → m ≤ q.until → Ends f set q (before m)
cut f set q zero is le = λ moment _ bare. bare (later_too f set q zero moment (omega arith) is.0)
cut f set q (suc m) is le = (
  omega (arith, le),
  λ h. absurd (omega (arith, is.1 m h)),
  λ moment _ bare.
      elim (cases_Bool (nat_le moment m)) as (λ _. moment ≤ m) [
        | inl e ↦ leb-true moment m e
        | inr e ↦ absurd (bare (later_too f set q (suc m) moment (omega (arith, leb-false moment m e)) is.0))
      ],
)

ends : (f : RosterFields Cmnd) (set : List Message) (q : RequestFields) (o : Option ℕ) → Revokes f set q o → Ends f set q (end_of q.until o)
ends f set q None is = (omega arith, is q.until, λ moment le _. le)
ends f set q (Some m) is =
    cond_both (nat_le m q.until) (before m) (Some q.until) (Ends f set q)
    (λ e. cut f set q m is (leb-true m q.until e))
    (λ e. (omega arith, λ h. omega (arith, leb-false m q.until e, is.1 q.until h), λ moment le _. le))

-- ---- statuses

-- what is known about a request before the question whether it is complete
abbrev IsOpen : RosterFields Cmnd → List Message → RequestFields → Type 0
IsOpen f set q = StandsAlone set q × AdmitsRequest f q × (¬ IsRefused f set q)

of_request : (f : RosterFields Cmnd) (set : List Message) (q : RequestFields) (P : RequestFields → Type 0)
    → StandsAlone set q → AdmitsRequest f q → P q → IsAdmitted f set (name_of q) P
of_request f set q P alone admits is =
    record { request = q; named = (refl, refl); alone = alone; admissible = admits; is = is }

between : (f : RosterFields Cmnd) (set : List Message) (q : RequestFields) (complete : ℕ) (o : Option ℕ) → IsOpen f set q
    → IsComplete f set q complete → Ends f set q o → IsStatus f set (name_of q) (window (max q.from complete) o)
between f set q complete None free is none =
    of_request f set q (IsVoid f set) free.0 free.1
    (record { unrefused = free.2; complete = complete; complete_is = is; empty = λ moment w. none moment w.until w.unrevoked })
between f set q complete (Some last) free is end =
    cond_both (nat_le (max q.from complete) last) (Granted (record { start = max q.from complete; end = last })) Void (IsStatus f set (name_of q))
    (λ e.
    let le : max q.from complete ≤ last = leb-true (max q.from complete) last e in
    of_request f set q (λ r. IsFirstMoment f set r (max q.from complete) × IsLastMoment f set r last) free.0 free.1 (
      record {
        inside = record {
          alone = free.0;
          admissible = free.1;
          unrefused = free.2;
          complete = complete;
          complete_is = is;
          from = omega arith;
          behind = omega arith;
          until = omega (arith, le, end.0);
          unrevoked = λ h. end.1 (later_too f set q (max q.from complete) last le h);
        };
        least = λ other w. omega (arith, w.from, w.behind, is.least w.complete w.complete_is.approved);
      },
      record {
        inside = record {
          alone = free.0;
          admissible = free.1;
          unrefused = free.2;
          complete = complete;
          complete_is = is;
          from = omega (arith, le);
          behind = omega (arith, le);
          until = end.0;
          unrevoked = end.1;
        };
        greatest = λ other w. end.2 other w.until w.unrevoked;
      },
    ))
    (λ e. of_request f set q (IsVoid f set) free.0 free.1 (record {
      unrefused = free.2;
      complete = complete;
      complete_is = is;
      empty = λ moment w.
          omega (arith, leb-false (max q.from complete) last e, end.2 moment w.until w.unrevoked, w.from, w.behind, is.least w.complete w.complete_is.approved);
    }))

open_status : (f : RosterFields Cmnd) (c : CeilingFields Cmnd) (set : List Message) (k : Kept) (o : Option ℕ) → IsUnder f k.request c
    → IsOpen f set k.request → Completes f set k.request o → StandsFor set k → IsStatus f set (name_of k.request) (from_complete f c k o)
open_status f c set k None at free never s =
    of_request f set k.request (λ q. (¬ IsRefused f set q) × NeverComplete f set q) free.0 free.1 (free.2, never)
open_status f c set k (Some complete) at free is s =
    between f set k.request complete (end_of k.request.until (revocation f c k)) free is
    (ends f set k.request (revocation f c k) (revokes f c set k.request k.revocations at s.revocations))

pub stands_alone : (set : List Message) (k : Kept) → k.is_disputed ≡ false → StandsFor set k → StandsAlone set k.request
stands_alone set k single s = record { asked = s.asked; alone = s.alone single }

pub admitted_is : (f : RosterFields Cmnd) (c : CeilingFields Cmnd) (set : List Message) (k : Kept) → IsUnder f k.request c → 1 ≤ c.needs
    → AdmitsRequest f k.request → k.is_disputed ≡ false → StandsFor set k → IsStatus f set (name_of k.request) (admitted_status f c k)
admitted_is f c set k at some admits single s =
    let o = completion f c k in
    let alone = stands_alone set k single s in
    let is = completes f c set k at some s in
    cond_both (is_refused (has_counting f c kinds.Refuse k.request.by) o k.refusals) Refused (from_complete f c k o) (IsStatus f set (name_of k.request))
    (λ e. of_request f set k.request (IsRefused f set) alone admits (refused_yes f c set k.request o k.refusals at is s.refusals e))
    (λ e. open_status f c set k o at (alone, admits, refused_not f c set k.request o k.refusals at is s.refusals e) is s)

pub lapsed_is : (f : RosterFields Cmnd) (set : List Message) (k : Kept) → (¬ AdmitsRequest f k.request)
    → k.is_disputed ≡ false → StandsFor set k → IsLapsed f set (name_of k.request)
lapsed_is f set k denied single s =
    record { request = k.request; named = (refl, refl); alone = stands_alone set k single s; inadmissible = denied }

pub disputed_is : (set : List Message) (k : Kept) → k.is_disputed ≡ true → StandsFor set k → IsDisputed set (name_of k.request)
disputed_is set k two s =
    let found = s.other two in
    record {
      first = found.0;
      second = k.request;
      first_asked = found.1;
      second_asked = s.asked;
      first_named = found.2;
      second_named = (refl, refl);
      differ = found.3;
    }
