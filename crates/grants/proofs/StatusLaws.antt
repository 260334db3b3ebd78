-- What a set of messages comes to depends on its requests and on the verdicts that count, and is one thing.
use Rattle.std.proofs.Common.{◌≡◌, ◌≢◌, ℕ, zero, suc, List, refl, sym, ap, ◌∙◌, subst, arith}
use Rattle.std.specs.List.{Contains}
use Rattle.sudo_words.specs.declared.cmnd.Cmnd.{Cmnd}
use Rattle.messages.specs.Fields.{RequestFields, VerdictFields}
use Rattle.messages.specs.Names.{IsNamed, SameName, SameMessages}
use Rattle.messages.specs.declared.request_name.RequestName.{RequestName}
use Rattle.messages.specs.declared.message.Message.{Message}
use Rattle.messages.specs.declared.message.Message.TheVariants.{Request, Verdict}
use Rattle.messages.specs.declared.kind.VerdictKind.{VerdictKind}
use Rattle.messages.specs.declared.kind.VerdictKind.TheVariants.{Approve, Refuse, Revoke}
use Rattle.roster.specs.Fields.{RosterFields}
use Rattle.grants.specs.Admission.{AdmitsRequest}
use Rattle.grants.specs.Verdicts.{StandsAlone, IsDisputed, IsGiven, HasGiven, AtLeast, ApprovedBy, IsComplete, IsRefused, RevokedBy}
use Rattle.grants.specs.Statuses.{InWindow, IsFirstMoment, IsLastMoment, IsAdmitted, IsLapsed, IsVoid, NeverComplete, IsStatus}
use Rattle.grants.specs.declared.outcome.Status.{Status}
use Rattle.grants.specs.declared.outcome.Status.TheVariants.{Disputed, Lapsed, Refused, Waiting, Void, Granted}
use Rattle.grants.specs.declared.outcome.Window.{Window}

-- ---- one status

one_request : (p q : RequestFields) → (name : RequestName) → IsNamed p name → IsNamed q name → SameName p q
one_request p q name a b = (a.0 ∙ sym b.0, a.1 ∙ sym b.1)

not_alone : (set : List Message) (name : RequestName) (q : RequestFields) → IsDisputed set name → StandsAlone set q → IsNamed q name → ⊥
not_alone set name q d alone named =
    d.differ (alone.alone d.first d.first_asked (one_request d.first q name d.first_named named)
    ∙ sym (alone.alone d.second d.second_asked (one_request d.second q name d.second_named named)))

-- both hold for the one request
both : (f : RosterFields Cmnd) (set : List Message) (name : RequestName) (P Q : RequestFields → Type 0)
    → IsAdmitted f set name P → IsAdmitted f set name Q → (q : RequestFields) × P q × Q q
both f set name P Q x y =
    (y.request, subst P (y.alone.alone x.request x.alone.asked (one_request x.request y.request name x.named y.named)) x.is, y.is)

not_lapsed : (f : RosterFields Cmnd) (set : List Message) (name : RequestName) (P : RequestFields → Type 0) → IsLapsed f set name → IsAdmitted f set name P → ⊥
not_lapsed f set name P x y =
    x.inadmissible (subst (λ (q : RequestFields). AdmitsRequest f q)
    (sym (y.alone.alone x.request x.alone.asked (one_request x.request y.request name x.named y.named))) y.admissible)

one_window : (f : RosterFields Cmnd) (set : List Message) (q : RequestFields) (v w : Window)
    → IsFirstMoment f set q v.start × IsLastMoment f set q v.end → IsFirstMoment f set q w.start × IsLastMoment f set q w.end → v ≡ w
one_window f set q v w x y =
    let start : v.start ≡ w.start = omega (arith, x.0.least w.start y.0.inside, y.0.least v.start x.0.inside) in
    let end : v.end ≡ w.end = omega (arith, x.1.greatest w.end y.1.inside, y.1.greatest v.end x.1.inside) in
    rw (start, end) refl

-- where the first of two different statuses applies, the second does not
later_not : (f : RosterFields Cmnd) (set : List Message) (name : RequestName) (P Q : RequestFields → Type 0)
    → ((q : RequestFields) → P q → Q q → ⊥) → IsAdmitted f set name P → IsAdmitted f set name Q → ⊥
later_not f set name P Q apart x y = let h = both f set name P Q x y in apart h.0 h.1 h.2

abbrev Waits : RosterFields Cmnd → List Message → RequestFields → Type 0
Waits f set q = (¬ IsRefused f set q) × NeverComplete f set q

abbrev Grants : RosterFields Cmnd → List Message → Window → RequestFields → Type 0
Grants f set w q = IsFirstMoment f set q w.start × IsLastMoment f set q w.end

refused_waiting : (f : RosterFields Cmnd) (set : List Message) (name : RequestName) → IsStatus f set name Refused → IsStatus f set name Waiting → ⊥
refused_waiting f set name = later_not f set name (IsRefused f set) (Waits f set) (λ q r w. w.0 r)

refused_void : (f : RosterFields Cmnd) (set : List Message) (name : RequestName) → IsStatus f set name Refused → IsStatus f set name Void → ⊥
refused_void f set name = later_not f set name (IsRefused f set) (IsVoid f set) (λ q r v. v.unrefused r)

refused_granted : (f : RosterFields Cmnd) (set : List Message) (name : RequestName) (w : Window)
    → IsStatus f set name Refused → IsStatus f set name (Granted w) → ⊥
refused_granted f set name w = later_not f set name (IsRefused f set) (Grants f set w) (λ q r g. g.0.inside.unrefused r)

waiting_void : (f : RosterFields Cmnd) (set : List Message) (name : RequestName) → IsStatus f set name Waiting → IsStatus f set name Void → ⊥
waiting_void f set name = later_not f set name (Waits f set) (IsVoid f set) (λ q w v. w.1 v.complete v.complete_is)

waiting_granted : (f : RosterFields Cmnd) (set : List Message) (name : RequestName) (w : Window)
    → IsStatus f set name Waiting → IsStatus f set name (Granted w) → ⊥
waiting_granted f set name w =
    later_not f set name (Waits f set) (Grants f set w) (λ q v g. v.1 g.0.inside.complete g.0.inside.complete_is)

void_granted : (f : RosterFields Cmnd) (set : List Message) (name : RequestName) (w : Window) → IsStatus f set name Void → IsStatus f set name (Granted w) → ⊥
void_granted f set name w = later_not f set name (IsVoid f set) (Grants f set w) (λ q v g. v.empty w.start g.0.inside)

pub one_status : (f : RosterFields Cmnd) (set : List Message) (name : RequestName) (a b : Status) → IsStatus f set name a → IsStatus f set name b → a ≡ b
one_status f set name Disputed Disputed x y = refl
one_status f set name Disputed Lapsed x y = absurd (not_alone set name y.request x y.alone y.named)
one_status f set name Disputed Refused x y = absurd (not_alone set name y.request x y.alone y.named)
one_status f set name Disputed Waiting x y = absurd (not_alone set name y.request x y.alone y.named)
one_status f set name Disputed Void x y = absurd (not_alone set name y.request x y.alone y.named)
one_status f set name Disputed (Granted w) x y = absurd (not_alone set name y.request x y.alone y.named)
one_status f set name Lapsed Disputed x y = absurd (not_alone set name x.request y x.alone x.named)
one_status f set name Lapsed Lapsed x y = refl
one_status f set name Lapsed Refused x y = absurd (not_lapsed f set name (IsRefused f set) x y)
one_status f set name Lapsed Waiting x y = absurd (not_lapsed f set name (Waits f set) x y)
one_status f set name Lapsed Void x y = absurd (not_lapsed f set name (IsVoid f set) x y)
one_status f set name Lapsed (Granted w) x y = absurd (not_lapsed f set name (Grants f set w) x y)
one_status f set name Refused Disputed x y = absurd (not_alone set name x.request y x.alone x.named)
one_status f set name Refused Lapsed x y = absurd (not_lapsed f set name (IsRefused f set) y x)
one_status f set name Refused Refused x y = refl
one_status f set name Refused Waiting x y = absurd (refused_waiting f set name x y)
one_status f set name Refused Void x y = absurd (refused_void f set name x y)
one_status f set name Refused (Granted w) x y = absurd (refused_granted f set name w x y)
one_status f set name Waiting Disputed x y = absurd (not_alone set name x.request y x.alone x.named)
one_status f set name Waiting Lapsed x y = absurd (not_lapsed f set name (Waits f set) y x)
one_status f set name Waiting Refused x y = absurd (refused_waiting f set name y x)
one_status f set name Waiting Waiting x y = refl
one_status f set name Waiting Void x y = absurd (waiting_void f set name x y)
one_status f set name Waiting (Granted w) x y = absurd (waiting_granted f set name w x y)
one_status f set name Void Disputed x y = absurd (not_alone set name x.request y x.alone x.named)
one_status f set name Void Lapsed x y = absurd (not_lapsed f set name (IsVoid f set) y x)
one_status f set name Void Refused x y = absurd (refused_void f set name y x)
one_status f set name Void Waiting x y = absurd (waiting_void f set name y x)
one_status f set name Void Void x y = refl
one_status f set name Void (Granted w) x y = absurd (void_granted f set name w x y)
one_status f set name (Granted v) Disputed x y = absurd (not_alone set name x.request y x.alone x.named)
one_status f set name (Granted v) Lapsed x y = absurd (not_lapsed f set name (Grants f set v) y x)
one_status f set name (Granted v) Refused x y = absurd (refused_granted f set name v y x)
one_status f set name (Granted v) Waiting x y = absurd (waiting_granted f set name v y x)
one_status f set name (Granted v) Void x y = absurd (void_granted f set name v y x)
one_status f set name (Granted v) (Granted w) x y =
    let h = both f set name (Grants f set v) (Grants f set w) x y in ap Granted (one_window f set h.0 v w h.1 h.2)

-- ---- from one set to another with the same requests and the same verdicts that count

abbrev SameRequests : List Message → List Message → Type 0
SameRequests s t = (q : RequestFields) → (Contains s (Request q) → Contains t (Request q)) × (Contains t (Request q) → Contains s (Request q))

abbrev SameGiven : RosterFields Cmnd → List Message → List Message → RequestFields → Type 0
SameGiven f s t q =
    (kind : VerdictKind) (v : VerdictFields) → (IsGiven f s q kind v → IsGiven f t q kind v) × (IsGiven f t q kind v → IsGiven f s q kind v)

turned : (f : RosterFields Cmnd) (s t : List Message) (q : RequestFields) → SameGiven f s t q → SameGiven f t s q
turned f s t q same = λ kind v. ((same kind v).1, (same kind v).0)

pub at_least_more : (n : ℕ) (P Q : List ℕ → Type 0) → ((person : List ℕ) → P person → Q person) → AtLeast n P → AtLeast n Q
at_least_more zero P Q more h = tt
at_least_more (suc n) P Q more h =
    (h.0, more h.0 h.1, at_least_more n (λ other. P other × (other ≢ h.0)) (λ other. Q other × (other ≢ h.0)) (λ other p. (more other p.0, p.1)) h.2)

has_given : (f : RosterFields Cmnd) (s t : List Message) (q : RequestFields) (kind : VerdictKind) (moment : ℕ) (person : List ℕ)
    → SameGiven f s t q → HasGiven f s q kind moment person → HasGiven f t q kind moment person
has_given f s t q kind moment person same h =
    record { verdict = h.verdict; given = (same kind h.verdict).0 h.given; by_is = h.by_is; by_then = h.by_then }

approved : (f : RosterFields Cmnd) (s t : List Message) (q : RequestFields) (moment : ℕ) → SameGiven f s t q → ApprovedBy f s q moment → ApprovedBy f t q moment
approved f s t q moment same a = record {
  ceiling = a.ceiling;
  ceiling_is = a.ceiling_is;
  people = at_least_more a.ceiling.needs (HasGiven f s q Approve moment) (HasGiven f t q Approve moment)
      (λ person h. has_given f s t q Approve moment person same h) a.people;
}

pub complete : (f : RosterFields Cmnd) (s t : List Message) (q : RequestFields) (moment : ℕ)
    → SameGiven f s t q → IsComplete f s q moment → IsComplete f t q moment
complete f s t q moment same is = record {
  approved = approved f s t q moment same is.approved;
  least = λ other a. is.least other (approved f t s q other (turned f s t q same) a);
}

pub refused : (f : RosterFields Cmnd) (s t : List Message) (q : RequestFields) → SameGiven f s t q → IsRefused f s q → IsRefused f t q
refused f s t q same r = record {
  verdict = r.verdict;
  given = (same Refuse r.verdict).0 r.given;
  in_time = λ moment is. r.in_time moment (complete f t s q moment (turned f s t q same) is);
}

pub revoked : (f : RosterFields Cmnd) (s t : List Message) (q : RequestFields) (moment : ℕ)
    → SameGiven f s t q → RevokedBy f s q moment → RevokedBy f t q moment
revoked f s t q moment same r =
    record { verdict = r.verdict; given = (same Revoke r.verdict).0 r.given; by_then = r.by_then }

pub stands_alone : (s t : List Message) (q : RequestFields) → SameRequests s t → StandsAlone s q → StandsAlone t q
stands_alone s t q same alone =
    record { asked = (same q).0 alone.asked; alone = λ p asked named. alone.alone p ((same p).1 asked) named }

disputed : (s t : List Message) (name : RequestName) → SameRequests s t → IsDisputed s name → IsDisputed t name
disputed s t name same d = record {
  first = d.first;
  second = d.second;
  first_asked = (same d.first).0 d.first_asked;
  second_asked = (same d.second).0 d.second_asked;
  first_named = d.first_named;
  second_named = d.second_named;
  differ = d.differ;
}

turned_requests : (s t : List Message) → SameRequests s t → SameRequests t s
turned_requests s t same = λ q. ((same q).1, (same q).0)

pub in_window : (f : RosterFields Cmnd) (s t : List Message) (q : RequestFields) (moment : ℕ)
    → SameRequests s t → SameGiven f s t q → InWindow f s q moment → InWindow f t q moment
in_window f s t q moment requests same w = record {
  alone = stands_alone s t q requests w.alone;
  admissible = w.admissible;
  unrefused = λ r. w.unrefused (refused f t s q (turned f s t q same) r);
  complete = w.complete;
  complete_is = complete f s t q w.complete same w.complete_is;
  from = w.from;
  behind = w.behind;
  until = w.until;
  unrevoked = λ r. w.unrevoked (revoked f t s q moment (turned f s t q same) r);
}

first_moment : (f : RosterFields Cmnd) (s t : List Message) (q : RequestFields) (moment : ℕ)
    → SameRequests s t → SameGiven f s t q → IsFirstMoment f s q moment → IsFirstMoment f t q moment
first_moment f s t q moment requests same is = record {
  inside = in_window f s t q moment requests same is.inside;
  least = λ other w. is.least other (in_window f t s q other (turned_requests s t requests) (turned f s t q same) w);
}

last_moment : (f : RosterFields Cmnd) (s t : List Message) (q : RequestFields) (moment : ℕ)
    → SameRequests s t → SameGiven f s t q → IsLastMoment f s q moment → IsLastMoment f t q moment
last_moment f s t q moment requests same is = record {
  inside = in_window f s t q moment requests same is.inside;
  greatest = λ other w. is.greatest other (in_window f t s q other (turned_requests s t requests) (turned f s t q same) w);
}

admitted : (f : RosterFields Cmnd) (s t : List Message) (name : RequestName) (P Q : RequestFields → Type 0) → SameRequests s t
    → ((q : RequestFields) → Contains s (Request q) → P q → Q q) → IsAdmitted f s name P → IsAdmitted f t name Q
admitted f s t name P Q requests more x = record {
  request = x.request;
  named = x.named;
  alone = stands_alone s t x.request requests x.alone;
  admissible = x.admissible;
  is = more x.request x.alone.asked x.is;
}

abbrev SameVerdicts : RosterFields Cmnd → List Message → List Message → Type 0
SameVerdicts f s t = (q : RequestFields) → Contains s (Request q) → SameGiven f s t q

waits : (f : RosterFields Cmnd) (s t : List Message) (q : RequestFields) → SameGiven f s t q → Waits f s q → Waits f t q
waits f s t q same w =
    (λ r. w.0 (refused f t s q (turned f s t q same) r), λ moment is. w.1 moment (complete f t s q moment (turned f s t q same) is))

void : (f : RosterFields Cmnd) (s t : List Message) (q : RequestFields) → SameRequests s t → SameGiven f s t q → IsVoid f s q → IsVoid f t q
void f s t q requests same v = record {
  unrefused = λ r. v.unrefused (refused f t s q (turned f s t q same) r);
  complete = v.complete;
  complete_is = complete f s t q v.complete same v.complete_is;
  empty = λ moment w. v.empty moment (in_window f t s q moment (turned_requests s t requests) (turned f s t q same) w);
}

pub same_status : (f : RosterFields Cmnd) (s t : List Message) (name : RequestName) (status : Status)
    → SameRequests s t → SameVerdicts f s t → IsStatus f s name status → IsStatus f t name status
same_status f s t name Disputed requests verdicts x = disputed s t name requests x
same_status f s t name Lapsed requests verdicts x =
    record { request = x.request; named = x.named; alone = stands_alone s t x.request requests x.alone; inadmissible = x.inadmissible }
same_status f s t name Refused requests verdicts x =
    admitted f s t name (IsRefused f s) (IsRefused f t) requests (λ q asked. refused f s t q (verdicts q asked)) x
same_status f s t name Waiting requests verdicts x =
    admitted f s t name (Waits f s) (Waits f t) requests (λ q asked. waits f s t q (verdicts q asked)) x
same_status f s t name Void requests verdicts x =
    admitted f s t name (IsVoid f s) (IsVoid f t) requests (λ q asked. void f s t q requests (verdicts q asked)) x
same_status f s t name (Granted w) requests verdicts x =
    admitted f s t name (Grants f s w) (Grants f t w) requests
    (λ q asked g. (first_moment f s t q w.start requests (verdicts q asked) g.0, last_moment f s t q w.end requests (verdicts q asked) g.1)) x

-- ---- two lists of one set

pub kept_given : (f : RosterFields Cmnd) (s t : List Message) (q : RequestFields) (kind : VerdictKind) (v : VerdictFields)
    → (Contains s (Verdict v) → Contains t (Verdict v)) → IsGiven f s q kind v → IsGiven f t q kind v
kept_given f s t q kind v keeps g = record {
  given = keeps g.given;
  about = g.about;
  kind_is = g.kind_is;
  ceiling = g.ceiling;
  ceiling_is = g.ceiling_is;
  counts_is = g.counts_is;
}

pub order_free : (f : RosterFields Cmnd) (s t : List Message) (name : RequestName) (status : Status)
    → SameMessages s t → IsStatus f s name status → IsStatus f t name status
order_free f s t name status same x =
    same_status f s t name status (λ q. same (Request q))
    (λ q asked kind v. (kept_given f s t q kind v (same (Verdict v)).0, kept_given f t s q kind v (same (Verdict v)).1)) x
