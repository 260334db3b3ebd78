-- What a set of messages grants depends on its requests, and on what completes, refuses and revokes each.
use Rattle.std.proofs.Common.{◌≡◌, ℕ, List, Option, Some, None, refl, sym, ap, subst}
use Rattle.std.specs.List.{Contains}
use Rattle.sudo_words.specs.declared.cmnd.Cmnd.{Cmnd}
use Rattle.messages.specs.Fields.{RequestFields, VerdictFields}
use Rattle.messages.specs.Names.{NobodyAsks, SameMessages}
use Rattle.messages.specs.declared.request_name.RequestName.{RequestName}
use Rattle.messages.specs.declared.message.Message.{Message}
use Rattle.messages.specs.declared.message.Message.TheVariants.{Request, Verdict}
use Rattle.messages.specs.declared.kind.VerdictKind.{VerdictKind}
use Rattle.sudo_policy.specs.declared.entry.Entry.{Entry}
use Rattle.sudo_decide.specs.declared.invocation.Invocation.{Invocation}
use Rattle.roster.specs.Fields.{RosterFields}
use Rattle.grants.specs.Statuses.{InWindow, IsFirstMoment, IsLastMoment, IsAdmitted, IsStatus}
use Rattle.grants.specs.Verdicts.{IsComplete, IsGiven, IsRefused, RevokedBy}
use Rattle.grants.specs.declared.outcome.Status.{Status}
use Rattle.grants.specs.declared.outcome.Status.TheVariants.{Disputed, Lapsed, Refused, Waiting, Void, Granted}
use Rattle.grants.proofs.StatusLaws as statuses
use Rattle.messages.specs.Order.{TextPrecedes}
use Rattle.outcomes.specs.Covers.{Covers}
use Rattle.outcomes.specs.HostFile.{Line, IsLine, AreLines, IsHostFile, IsHostFileAfter}
use Rattle.outcomes.specs.LinesLeft.{IsFileLeft}
use Rattle.outcomes.specs.Outcomes.{AreLive, ComesTo, IsLive, LiveGrant, LivePrecedes}
use Rattle.outcomes.specs.Parked.{AreParked, IsParked}
use Rattle.messages.proofs.NameOrder.{texts_strict}
use Rattle.outcomes.proofs.Orders.{live_strict, same_lists}

-- ---- two sets that grant the same

abbrev Both : Type 0 → Type 0 → Type 0
Both A B = (A → B) × (B → A)

-- Both sets have the same requests, and each of these is complete at the same moments, refused in both or in neither, and revoked by the same moments.
pub record Alike (f : RosterFields Cmnd) (s t : List Message) : Type 0 where
  pub requests : (q : RequestFields) → Both (Contains s (Request q)) (Contains t (Request q))
  pub complete : (q : RequestFields) → Contains s (Request q) → (moment : ℕ) → Both (IsComplete f s q moment) (IsComplete f t q moment)
  pub refused : (q : RequestFields) → Contains s (Request q) → Both (IsRefused f s q) (IsRefused f t q)
  pub revoked : (q : RequestFields) → Contains s (Request q) → (moment : ℕ) → Both (RevokedBy f s q moment) (RevokedBy f t q moment)

swapped : {A B : Type 0} → Both A B → Both B A
swapped both = (both.1, both.0)

pub turned : (f : RosterFields Cmnd) (s t : List Message) → Alike f s t → Alike f t s
turned f s t a = record {
  requests = λ q. swapped (a.requests q);
  complete = λ q asked moment. swapped (a.complete q ((a.requests q).1 asked) moment);
  refused = λ q asked. swapped (a.refused q ((a.requests q).1 asked));
  revoked = λ q asked moment. swapped (a.revoked q ((a.requests q).1 asked) moment);
}

-- where the verdicts that count are the same
pub alike_from_given : (f : RosterFields Cmnd) (s t : List Message) → ((q : RequestFields) → Both (Contains s (Request q)) (Contains t (Request q)))
    → ((q : RequestFields) → Contains s (Request q) → (kind : VerdictKind) (v : VerdictFields) → Both (IsGiven f s q kind v) (IsGiven f t q kind v))
    → Alike f s t
alike_from_given f s t requests given = record {
  requests = requests;
  complete = λ q asked moment. (
    statuses.complete f s t q moment (given q asked),
    statuses.complete f t s q moment (λ kind v. swapped (given q asked kind v)),
  );
  refused = λ q asked.
      (statuses.refused f s t q (given q asked), statuses.refused f t s q (λ kind v. swapped (given q asked kind v)));
  revoked = λ q asked moment. (
    statuses.revoked f s t q moment (given q asked),
    statuses.revoked f t s q moment (λ kind v. swapped (given q asked kind v)),
  );
}

pub alike_sets : (f : RosterFields Cmnd) (s t : List Message) → SameMessages s t → Alike f s t
alike_sets f s t same =
    alike_from_given f s t (λ q. same (Request q))
    (λ q asked kind v. (statuses.kept_given f s t q kind v (same (Verdict v)).0, statuses.kept_given f t s q kind v (same (Verdict v)).1))

-- ---- windows, and what rests on them

module _ (f : RosterFields Cmnd) (s t : List Message) (a : Alike f s t) where
  pub window_alike : (q : RequestFields) (moment : ℕ) → InWindow f s q moment → InWindow f t q moment
  window_alike q moment w =
      let asked = w.alone.asked in
      record {
        alone = statuses.stands_alone s t q a.requests w.alone;
        admissible = w.admissible;
        unrefused = λ r. w.unrefused ((a.refused q asked).1 r);
        complete = w.complete;
        complete_is = (a.complete q asked w.complete).0 w.complete_is;
        from = w.from;
        behind = w.behind;
        until = w.until;
        unrevoked = λ r. w.unrevoked ((a.revoked q asked moment).1 r);
      }

module _ (f : RosterFields Cmnd) (s t : List Message) (a : Alike f s t) where
  first_alike : (q : RequestFields) (moment : ℕ) → IsFirstMoment f s q moment → IsFirstMoment f t q moment
  first_alike q moment is = record {
    inside = window_alike f s t a q moment is.inside;
    least = λ other w. is.least other (window_alike f t s (turned f s t a) q other w);
  }

  last_alike : (q : RequestFields) (moment : ℕ) → IsLastMoment f s q moment → IsLastMoment f t q moment
  last_alike q moment is = record {
    inside = window_alike f s t a q moment is.inside;
    greatest = λ other w. is.greatest other (window_alike f t s (turned f s t a) q other w);
  }

  pub covers_alike : (i : Invocation) → Covers f s i → Covers f t i
  covers_alike i c = record {
    request = c.request;
    cmnd = c.cmnd;
    window = window_alike f s t a c.request i.at c.window;
    user = c.user;
    host = c.host;
    target = c.target;
    of_request = c.of_request;
    matches_it = c.matches_it;
  }

  pub line_alike : (host : List ℕ) (line : Line) → IsLine f s host line → IsLine f t host line
  line_alike host line l = record {
    request = l.request;
    first = l.first;
    last = l.last;
    cmnd = l.cmnd;
    names_host = l.names_host;
    first_is = first_alike l.request l.first l.first_is;
    last_is = last_alike l.request l.last l.last_is;
    cmnd_is = l.cmnd_is;
    name_is = l.name_is;
    rule_is = l.rule_is;
  }

  pub live_one_alike : (moment : ℕ) (l : LiveGrant) → IsLive f s moment l → IsLive f t moment l
  live_one_alike moment l is = record {
    request = is.request;
    named = is.named;
    ceiling_is = is.ceiling_is;
    inside = window_alike f s t a is.request moment is.inside;
    first = first_alike is.request l.window.start is.first;
    last = last_alike is.request l.window.end is.last;
  }

  admitted_alike : (name : RequestName) (P Q : RequestFields → Type 0)
      → ((q : RequestFields) → Contains s (Request q) → P q → Q q) → IsAdmitted f s name P → IsAdmitted f t name Q
  admitted_alike name P Q more x = record {
    request = x.request;
    named = x.named;
    alone = statuses.stands_alone s t x.request a.requests x.alone;
    admissible = x.admissible;
    is = more x.request x.alone.asked x.is;
  }

  pub status_alike : (name : RequestName) (status : Status) → IsStatus f s name status → IsStatus f t name status
  status_alike name Disputed x = record {
    first = x.first;
    second = x.second;
    first_asked = (a.requests x.first).0 x.first_asked;
    second_asked = (a.requests x.second).0 x.second_asked;
    first_named = x.first_named;
    second_named = x.second_named;
    differ = x.differ;
  }
  status_alike name Lapsed x =
      record { request = x.request; named = x.named; alone = statuses.stands_alone s t x.request a.requests x.alone; inadmissible = x.inadmissible }
  status_alike name Refused x = admitted_alike name (IsRefused f s) (IsRefused f t) (λ q asked. (a.refused q asked).0) x
  status_alike name Waiting x =
      admitted_alike name _ _ (λ q asked w. (λ r. w.0 ((a.refused q asked).1 r), λ moment is. w.1 moment ((a.complete q asked moment).1 is))) x
  status_alike name Void x =
      admitted_alike name _ _ (λ q asked v. record {
        unrefused = λ r. v.unrefused ((a.refused q asked).1 r);
        complete = v.complete;
        complete_is = (a.complete q asked v.complete).0 v.complete_is;
        empty = λ moment w. v.empty moment (window_alike f t s (turned f s t a) q moment w);
      }) x
  status_alike name (Granted w) x =
      admitted_alike name _ _ (λ q asked g. (first_alike q w.start g.0, last_alike q w.end g.1)) x

module _ (f : RosterFields Cmnd) (s t : List Message) (a : Alike f s t) where
  pub lines_alike : (host : List ℕ) (lines : List Line) → AreLines f s host lines → AreLines f t host lines
  lines_alike host lines are = record {
    in_order = are.in_order;
    each = λ line m. line_alike f s t a host line (are.each line m);
    all = λ line l. are.all line (line_alike f t s (turned f s t a) host line l);
  }

  pub file_alike : (base : List Entry) (host text : List ℕ) → IsHostFile f base s host text → IsHostFile f base t host text
  file_alike base host text file =
      record { lines = file.lines; lines_are = lines_alike host file.lines file.lines_are; text_is = file.text_is }

  pub file_after_alike : (base : List Entry) (host : List ℕ) (moment : ℕ) (text : List ℕ)
      → IsHostFileAfter f base s host moment text → IsHostFileAfter f base t host moment text
  file_after_alike base host moment text file =
      record { lines = file.lines; lines_are = lines_alike host file.lines file.lines_are; text_is = file.text_is }

  pub left_alike : (base : List Entry) (host : List ℕ) (after : Option ℕ) (text : List ℕ)
      → IsFileLeft f base s host after text → IsFileLeft f base t host after text
  left_alike base host after text left =
      record { lines = left.lines; lines_are = lines_alike host left.lines left.lines_are; text_is = left.text_is; spelled = left.spelled }

  pub live_alike : (moment : ℕ) (list : List LiveGrant) → AreLive f s moment list → AreLive f t moment list
  live_alike moment list are = record {
    in_order = are.in_order;
    each = λ l m. live_one_alike f s t a moment l (are.each l m);
    all = λ l is. are.all l (live_one_alike f t s (turned f s t a) moment l is);
  }

  nobody_alike : (name : RequestName) → NobodyAsks s name → NobodyAsks t name
  nobody_alike name nobody = λ q h named. nobody q ((a.requests q).1 h) named

  pub outcome_alike : (name : RequestName) (o : Option Status) → ComesTo f s name o → ComesTo f t name o
  outcome_alike name None nobody = nobody_alike name nobody
  outcome_alike name (Some status) is = status_alike f s t a name status is

-- ---- parked

pub turned_set : (s t : List Message) → SameMessages s t → SameMessages t s
turned_set s t same = λ m. ((same m).1, (same m).0)

pub parked_one : (s t : List Message) → SameMessages s t → (v : VerdictFields) → IsParked s v → IsParked t v
parked_one s t same v is =
    record { given = (same (Verdict v)).0 is.given; waits = λ q h named. is.waits q ((same (Request q)).1 h) named }

pub parked_of_set : (s t : List Message) (texts : List (List ℕ)) → SameMessages s t → AreParked s texts → AreParked t texts
parked_of_set s t texts same are = record {
  in_order = are.in_order;
  each = λ text m. let found = are.each text m in (found.0, parked_one s t same found.0 found.1, found.2);
  all = λ v is. are.all v (parked_one t s (turned_set s t same) v is);
}

-- ---- one of each

pub one_live : (f : RosterFields Cmnd) (set : List Message) (moment : ℕ) (xs ys : List LiveGrant) → AreLive f set moment xs → AreLive f set moment ys → xs ≡ ys
one_live f set moment xs ys x y =
    same_lists LivePrecedes live_strict xs ys x.in_order y.in_order (λ l m. y.all l (x.each l m)) (λ l m. x.all l (y.each l m))

parked_in_other : (set : List Message) (xs ys : List (List ℕ)) → AreParked set xs → AreParked set ys → (text : List ℕ) → Contains xs text → Contains ys text
parked_in_other set xs ys x y text m =
    let found = x.each text m in subst (Contains ys) (sym found.2) (y.all found.0 found.1)

pub one_parked : (set : List Message) (xs ys : List (List ℕ)) → AreParked set xs → AreParked set ys → xs ≡ ys
one_parked set xs ys x y =
    same_lists TextPrecedes texts_strict xs ys x.in_order y.in_order (parked_in_other set xs ys x y) (parked_in_other set ys xs y x)

somebody : (f : RosterFields Cmnd) (set : List Message) (name : RequestName) (status : Status) → IsStatus f set name status → NobodyAsks set name → ⊥
somebody f set name Disputed x nobody = nobody x.first x.first_asked x.first_named
somebody f set name Lapsed x nobody = nobody x.request x.alone.asked x.named
somebody f set name Refused x nobody = nobody x.request x.alone.asked x.named
somebody f set name Waiting x nobody = nobody x.request x.alone.asked x.named
somebody f set name Void x nobody = nobody x.request x.alone.asked x.named
somebody f set name (Granted w) x nobody = nobody x.request x.alone.asked x.named

pub one_outcome : (f : RosterFields Cmnd) (set : List Message) (name : RequestName) (a b : Option Status) → ComesTo f set name a → ComesTo f set name b → a ≡ b
one_outcome f set name None None x y = refl
one_outcome f set name None (Some status) x y = absurd (somebody f set name status y x)
one_outcome f set name (Some status) None x y = absurd (somebody f set name status x y)
one_outcome f set name (Some s) (Some t) x y = ap (λ (z : Status). Some z) (statuses.one_status f set name s t x y)
