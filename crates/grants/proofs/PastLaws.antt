-- What was asked and answered up to a moment comes to the same by rosters that agree until then.
use Rattle.std.proofs.Common.{◌≡◌, ℕ, ◌+◌, ◌<◌, ◌≤◌, List, sym, ◌∙◌, inl, inr}
use Rattle.std.specs.List.{Contains}
use Rattle.sudo_words.specs.declared.cmnd.Cmnd.{Cmnd}
use Rattle.sudo_policy.specs.declared.entry.Rule.{Rule}
use Rattle.messages.specs.Fields.{RequestFields, VerdictFields}
use Rattle.messages.specs.declared.request_name.RequestName.{RequestName}
use Rattle.messages.specs.declared.message.Message.{Message}
use Rattle.messages.specs.declared.message.Message.TheVariants.{Request, Verdict}
use Rattle.messages.specs.declared.kind.VerdictKind.{VerdictKind}
use Rattle.messages.specs.declared.kind.VerdictKind.TheVariants.{Approve, Refuse, Revoke}
use Rattle.roster.specs.Agreement.{AgreeUntil}
use Rattle.roster.specs.Fields.{CeilingFields, RosterFields}
use Rattle.roster.specs.Relations.{ceiling_at}
use Rattle.roster.proofs.RightLemmas.{agree_turned, eligible_until, may_revoke_until, same_ceiling, same_person}
use Rattle.grants.specs.Admission.{Admits, AdmitsRequest, AdmitsVerdict, Denies, DeniesRequest}
use Rattle.grants.specs.Admission.{DeniesVerdict, HasCommandOutside, HasHostOutside, IsDenial, UnderCeiling}
use Rattle.grants.specs.GrantRules.{AreRules}
use Rattle.grants.specs.Past.{AreMadeBy, made_at}
use Rattle.grants.specs.Statuses.{InWindow, IsAdmitted, IsFirstMoment, IsLastMoment, IsStatus, IsVoid}
use Rattle.grants.specs.Verdicts.{ApprovedBy, HasGiven, IsComplete, IsGiven, IsRefused, RevokedBy, counts}
use Rattle.grants.specs.declared.denial.Denial.{Denial}
use Rattle.grants.specs.declared.denial.Denial.TheVariants.{UnknownPerson, UnknownCeiling, NotAsker, HostOutside}
use Rattle.grants.specs.declared.denial.Denial.TheVariants.{RunasOutside, CommandOutside, WindowTooLong, WindowBackwards}
use Rattle.grants.specs.declared.outcome.Status.{Status}
use Rattle.grants.specs.declared.outcome.Status.TheVariants.{Disputed, Lapsed, Refused, Waiting, Void, Granted}
use Rattle.grants.proofs.MomentLaws.{alike}
use Rattle.grants.proofs.StatusLaws.{at_least_more}

abbrev Both : Type 0 → Type 0 → Type 0
Both A B = (A → B) × (B → A)

-- ---- one message

module _ (f g : RosterFields Cmnd) (moment : ℕ) (agree : AgreeUntil moment f g) where
  admits_request : (r : RequestFields) → r.at ≤ moment → AdmitsRequest f r → AdmitsRequest g r
  admits_request r early a = record {
    ceiling = a.ceiling;
    may_ask = record {
      listed = sym (same_person f g moment agree r.by) ∙ a.may_ask.listed;
      ceiling_is = sym (same_ceiling f g moment agree r.ceiling) ∙ a.may_ask.ceiling_is;
      may_ask = sym (agree.duties r.by a.ceiling.ask r.at early) ∙ a.may_ask.may_ask;
    };
    within = a.within;
    in_time = a.in_time;
  }

  admits_verdict : (v : VerdictFields) → AdmitsVerdict f v → AdmitsVerdict g v
  admits_verdict v a = record {
    listed = sym (same_person f g moment agree v.by) ∙ a.listed;
    asker_listed = sym (same_person f g moment agree v.of) ∙ a.asker_listed;
  }

  admits : (m : Message) → made_at m ≤ moment → Admits f m → Admits g m
  admits (Request r) early a = admits_request r early a
  admits (Verdict v) early a = admits_verdict v a

  under : (r : RequestFields) (P : CeilingFields Cmnd → Type 0) → UnderCeiling f r P → UnderCeiling g r P
  under r P u = (u.0, sym (same_ceiling f g moment agree r.ceiling) ∙ u.1, u.2)

  denies_request : (r : RequestFields) (d : Denial) → r.at ≤ moment → DeniesRequest f r d → DeniesRequest g r d
  denies_request r UnknownPerson early x = sym (same_person f g moment agree r.by) ∙ x
  denies_request r UnknownCeiling early x = sym (same_ceiling f g moment agree r.ceiling) ∙ x
  denies_request r NotAsker early x =
      (x.0, sym (same_ceiling f g moment agree r.ceiling) ∙ x.1, sym (agree.duties r.by x.0.ask r.at early) ∙ x.2)
  denies_request r HostOutside early x = under r (HasHostOutside r) x
  denies_request r RunasOutside early x = under r (λ c. ¬ Contains c.runas r.runas) x
  denies_request r CommandOutside early x = under r (HasCommandOutside r) x
  denies_request r WindowTooLong early x = under r (λ c. r.from + c.longest < r.until) x
  denies_request r WindowBackwards early x = x

  denies_verdict : (v : VerdictFields) (d : Denial) → DeniesVerdict f v d → DeniesVerdict g v d
  denies_verdict v UnknownPerson (inl x) = inl (sym (same_person f g moment agree v.by) ∙ x)
  denies_verdict v UnknownPerson (inr x) = inr (sym (same_person f g moment agree v.of) ∙ x)
  denies_verdict v _ x = x

  denies : (m : Message) (d : Denial) → made_at m ≤ moment → Denies f m d → Denies g m d
  denies (Request r) d early x = denies_request r d early x
  denies (Verdict v) d early x = denies_verdict v d x

  pub counts_alike : (c : CeilingFields Cmnd) (v : VerdictFields) → v.at ≤ moment → counts f c v ≡ counts g c v
  counts_alike c v early =
      alike f g c v (eligible_until f g moment agree v.by v.of c v.at early) (may_revoke_until f g moment agree v.by v.of c v.at early)

  given : (set : List Message) → AreMadeBy moment set → (q : RequestFields) (kind : VerdictKind) (v : VerdictFields)
      → IsGiven f set q kind v → IsGiven g set q kind v
  given set early q kind v x = record {
    given = x.given;
    about = x.about;
    kind_is = x.kind_is;
    ceiling = x.ceiling;
    ceiling_is = sym (same_ceiling f g moment agree q.ceiling) ∙ x.ceiling_is;
    counts_is = sym (counts_alike x.ceiling v (early (Verdict v) x.given)) ∙ x.counts_is;
  }

module _ (f g : RosterFields Cmnd) (moment : ℕ) (agree : AgreeUntil moment f g) where
  pub same_admits : (m : Message) → made_at m ≤ moment → Both (Admits f m) (Admits g m)
  same_admits m early = (admits f g moment agree m early, admits g f moment (agree_turned f g moment agree) m early)

  denial : (m : Message) (d : Denial) → made_at m ≤ moment → IsDenial f m d → IsDenial g m d
  denial m d early is = record {
    applies = denies f g moment agree m d early is.applies;
    first = λ lower below x. is.first lower below (denies g f moment (agree_turned f g moment agree) m lower early x);
  }

module _ (f g : RosterFields Cmnd) (moment : ℕ) (agree : AgreeUntil moment f g) where
  pub same_denial : (m : Message) (d : Denial) → made_at m ≤ moment → Both (IsDenial f m d) (IsDenial g m d)
  same_denial m d early = (denial f g moment agree m d early, denial g f moment (agree_turned f g moment agree) m d early)

-- ---- a set of messages

-- The rosters have the same ceilings, admit the same of the set's requests, and count the same of its verdicts.
pub record JudgeAlike (f g : RosterFields Cmnd) (set : List Message) : Type 0 where
  pub ceilings : (label : List ℕ) → ceiling_at f label ≡ ceiling_at g label
  pub admitted : (q : RequestFields) → Contains set (Request q) → Both (AdmitsRequest f q) (AdmitsRequest g q)
  pub given : (q : RequestFields) (kind : VerdictKind) (v : VerdictFields) → Both (IsGiven f set q kind v) (IsGiven g set q kind v)

pub judge_alike : (f g : RosterFields Cmnd) (moment : ℕ) (set : List Message) → AgreeUntil moment f g → AreMadeBy moment set → JudgeAlike f g set
judge_alike f g moment set agree early =
    let back = agree_turned f g moment agree in
    record {
      ceilings = same_ceiling f g moment agree;
      admitted = λ q asked. (admits_request f g moment agree q (early (Request q) asked), admits_request g f moment back q (early (Request q) asked));
      given = λ q kind v. (given f g moment agree set early q kind v, given g f moment back set early q kind v);
    }

pub judge_turned : (f g : RosterFields Cmnd) (set : List Message) → JudgeAlike f g set → JudgeAlike g f set
judge_turned f g set same = record {
  ceilings = λ label. sym (same.ceilings label);
  admitted = λ q asked. ((same.admitted q asked).1, (same.admitted q asked).0);
  given = λ q kind v. ((same.given q kind v).1, (same.given q kind v).0);
}

module _ (f g : RosterFields Cmnd) (set : List Message) (same : JudgeAlike f g set) where
  approved : (q : RequestFields) (moment : ℕ) → ApprovedBy f set q moment → ApprovedBy g set q moment
  approved q moment a = record {
    ceiling = a.ceiling;
    ceiling_is = sym (same.ceilings q.ceiling) ∙ a.ceiling_is;
    people = at_least_more a.ceiling.needs (HasGiven f set q Approve moment) (HasGiven g set q Approve moment)
        (λ person h. record { verdict = h.verdict; given = (same.given q Approve h.verdict).0 h.given; by_is = h.by_is; by_then = h.by_then }) a.people;
  }

  revoked : (q : RequestFields) (moment : ℕ) → RevokedBy f set q moment → RevokedBy g set q moment
  revoked q moment r = record { verdict = r.verdict; given = (same.given q Revoke r.verdict).0 r.given; by_then = r.by_then }

module _ (f g : RosterFields Cmnd) (set : List Message) (same : JudgeAlike f g set) where
  pub complete : (q : RequestFields) (moment : ℕ) → IsComplete f set q moment → IsComplete g set q moment
  complete q moment is = record {
    approved = approved f g set same q moment is.approved;
    least = λ other a. is.least other (approved g f set (judge_turned f g set same) q other a);
  }

module _ (f g : RosterFields Cmnd) (set : List Message) (same : JudgeAlike f g set) where
  refused : (q : RequestFields) → IsRefused f set q → IsRefused g set q
  refused q r = record {
    verdict = r.verdict;
    given = (same.given q Refuse r.verdict).0 r.given;
    in_time = λ moment is. r.in_time moment (complete g f set (judge_turned f g set same) q moment is);
  }

module _ (f g : RosterFields Cmnd) (set : List Message) (same : JudgeAlike f g set) where
  pub window : (q : RequestFields) (moment : ℕ) → InWindow f set q moment → InWindow g set q moment
  window q moment w =
      let back = judge_turned f g set same in
      record {
        alone = w.alone;
        admissible = (same.admitted q w.alone.asked).0 w.admissible;
        unrefused = λ r. w.unrefused (refused g f set back q r);
        complete = w.complete;
        complete_is = complete f g set same q w.complete w.complete_is;
        from = w.from;
        behind = w.behind;
        until = w.until;
        unrevoked = λ r. w.unrevoked (revoked g f set back q moment r);
      }

module _ (f g : RosterFields Cmnd) (set : List Message) (same : JudgeAlike f g set) where
  pub first_moment : (q : RequestFields) (moment : ℕ) → IsFirstMoment f set q moment → IsFirstMoment g set q moment
  first_moment q moment is = record {
    inside = window f g set same q moment is.inside;
    least = λ other w. is.least other (window g f set (judge_turned f g set same) q other w);
  }

  pub last_moment : (q : RequestFields) (moment : ℕ) → IsLastMoment f set q moment → IsLastMoment g set q moment
  last_moment q moment is = record {
    inside = window f g set same q moment is.inside;
    greatest = λ other w. is.greatest other (window g f set (judge_turned f g set same) q other w);
  }

  admitted : (name : RequestName) (P Q : RequestFields → Type 0) → ((q : RequestFields) → P q → Q q) → IsAdmitted f set name P → IsAdmitted g set name Q
  admitted name P Q more x = record {
    request = x.request;
    named = x.named;
    alone = x.alone;
    admissible = (same.admitted x.request x.alone.asked).0 x.admissible;
    is = more x.request x.is;
  }

  void : (q : RequestFields) → IsVoid f set q → IsVoid g set q
  void q v =
      let back = judge_turned f g set same in
      record {
        unrefused = λ r. v.unrefused (refused g f set back q r);
        complete = v.complete;
        complete_is = complete f g set same q v.complete v.complete_is;
        empty = λ moment w. v.empty moment (window g f set back q moment w);
      }

  pub status : (name : RequestName) (s : Status) → IsStatus f set name s → IsStatus g set name s
  status name Disputed x = x
  status name Lapsed x = record {
    request = x.request;
    named = x.named;
    alone = x.alone;
    inadmissible = λ a. x.inadmissible ((same.admitted x.request x.alone.asked).1 a);
  }
  status name Refused x = admitted name (IsRefused f set) (IsRefused g set) (refused f g set same) x
  status name Waiting x =
      let back = judge_turned f g set same in
      admitted name _ _ (λ q w. (λ r. w.0 (refused g f set back q r), λ moment is. w.1 moment (complete g f set back q moment is))) x
  status name Void x = admitted name (IsVoid f set) (IsVoid g set) void x
  status name (Granted w) x = admitted name _ _ (λ q h. (first_moment q w.start h.0, last_moment q w.end h.1)) x

module _ (f g : RosterFields Cmnd) (set : List Message) (same : JudgeAlike f g set) where
  pub rules : (q : RequestFields) (host : List ℕ) (rs : List Rule) → AreRules f set q host rs → AreRules g set q host rs
  rules q host rs are =
      let back = judge_turned f g set same in
      record {
        granted = λ first last names a b. are.granted first last names (first_moment g f set back q first a) (last_moment g f set back q last b);
        other_host = are.other_host;
        never = λ none. are.never (λ moment w. none moment (window f g set same q moment w));
      }

-- ---- both ways

module _ (f g : RosterFields Cmnd) (set : List Message) (same : JudgeAlike f g set) where
  pub same_complete : (q : RequestFields) (moment : ℕ) → Both (IsComplete f set q moment) (IsComplete g set q moment)
  same_complete q moment = (complete f g set same q moment, complete g f set (judge_turned f g set same) q moment)

  pub same_window : (q : RequestFields) (moment : ℕ) → Both (InWindow f set q moment) (InWindow g set q moment)
  same_window q moment = (window f g set same q moment, window g f set (judge_turned f g set same) q moment)

  pub same_status : (name : RequestName) (s : Status) → Both (IsStatus f set name s) (IsStatus g set name s)
  same_status name s = (status f g set same name s, status g f set (judge_turned f g set same) name s)

  pub same_rules : (q : RequestFields) (host : List ℕ) (rs : List Rule) → Both (AreRules f set q host rs) (AreRules g set q host rs)
  same_rules q host rs = (rules f g set same q host rs, rules g f set (judge_turned f g set same) q host rs)
