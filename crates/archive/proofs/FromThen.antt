-- Sets that are alike from a moment on: what has not ended by then is judged alike, and nothing else is in force.
use Rattle.std.proofs.Common.{◌≡◌, ℕ, ◌≤◌, Bool, List, Option, Some, None, sym, subst, arith}
use Rattle.std.specs.List.{Contains}
use Rattle.sudo_words.specs.declared.cmnd.Cmnd.{Cmnd}
use Rattle.sudo_policy.specs.declared.entry.Entry.{Entry}
use Rattle.sudo_decide.specs.declared.invocation.Invocation.{Invocation}
use Rattle.messages.specs.Fields.{RequestFields, VerdictFields}
use Rattle.messages.specs.Names.{name_of}
use Rattle.messages.specs.declared.kind.VerdictKind.{VerdictKind}
use Rattle.messages.specs.declared.message.Message.{Message}
use Rattle.messages.specs.declared.message.Message.TheVariants.{Request}
use Rattle.messages.specs.declared.request_name.RequestName.{RequestName}
use Rattle.roster.specs.Fields.{RosterFields}
use Rattle.grants.specs.GrantLines.{stays}
use Rattle.grants.specs.Statuses.{InWindow, IsFirstMoment, IsLastMoment, IsAdmitted, IsStatus}
use Rattle.grants.specs.Verdicts.{IsComplete, IsGiven, IsRefused}
use Rattle.grants.specs.declared.outcome.Status.{Status}
use Rattle.grants.specs.declared.outcome.Status.TheVariants.{Disputed, Lapsed, Refused, Waiting, Void, Granted}
use Rattle.grants.proofs.StatusLaws as statuses
use Rattle.outcomes.specs.Covers.{Covers}
use Rattle.outcomes.specs.HostFile.{AreLines, IsLine, Line, LinePrecedes, lines_after}
use Rattle.outcomes.specs.Outcomes.{AreLive, ComesTo, IsLive, LiveGrant}
use Rattle.outcomes.specs.Rights.{GivesRightsAfter}
use Rattle.outcomes.proofs.FileLemmas.{left_exactly}
use Rattle.outcomes.proofs.Filters.{left_in_order, was_there}
use Rattle.outcomes.proofs.Orders.{lines_strict, same_lists}
use Rattle.outcomes.proofs.Standing.{name_from_named}
use Rattle.archive.proofs.Cuts.{disputed_same}

abbrev SameGiven : RosterFields Cmnd → List Message → List Message → RequestFields → Type 0
SameGiven f s t q =
    (kind : VerdictKind) (v : VerdictFields) → (IsGiven f s q kind v → IsGiven f t q kind v) × (IsGiven f t q kind v → IsGiven f s q kind v)

-- Both sets have the same requests, and the same verdicts that count on each whose name is open; and only such are in force at the moment or later.
pub record AlikeFrom (f : RosterFields Cmnd) (moment : ℕ) (Open : RequestName → Type 0) (s t : List Message) : Type 0 where
  pub requests : (q : RequestFields) → (Contains s (Request q) → Contains t (Request q)) × (Contains t (Request q) → Contains s (Request q))
  pub given : (q : RequestFields) → Open (name_of q) → SameGiven f s t q
  pub stands : (q : RequestFields) (at : ℕ) → moment ≤ at → InWindow f s q at → Open (name_of q)
  pub stands_too : (q : RequestFields) (at : ℕ) → moment ≤ at → InWindow f t q at → Open (name_of q)

pub turned : (f : RosterFields Cmnd) (moment : ℕ) (Open : RequestName → Type 0) (s t : List Message)
    → AlikeFrom f moment Open s t → AlikeFrom f moment Open t s
turned f moment Open s t a = record {
  requests = λ q. ((a.requests q).1, (a.requests q).0);
  given = λ q is kind v. ((a.given q is kind v).1, (a.given q is kind v).0);
  stands = a.stands_too;
  stands_too = a.stands;
}

module _ (f : RosterFields Cmnd) (moment : ℕ) (Open : RequestName → Type 0) (s t : List Message) (a : AlikeFrom f moment Open s t) where
  pub window_of : (q : RequestFields) (at : ℕ) → Open (name_of q) → InWindow f s q at → InWindow f t q at
  window_of q at is w = statuses.in_window f s t q at a.requests (a.given q is) w

  pub window_from : (q : RequestFields) (at : ℕ) → moment ≤ at → InWindow f s q at → InWindow f t q at
  window_from q at from w = window_of q at (a.stands q at from w) w

module _ (f : RosterFields Cmnd) (moment : ℕ) (Open : RequestName → Type 0) (s t : List Message) (a : AlikeFrom f moment Open s t) where
  abbrev b : AlikeFrom f moment Open t s
  b = turned f moment Open s t a

  first_of : (q : RequestFields) (at : ℕ) → Open (name_of q) → IsFirstMoment f s q at → IsFirstMoment f t q at
  first_of q at is first = record {
    inside = window_of f moment Open s t a q at is first.inside;
    least = λ other w. first.least other (window_of f moment Open t s b q other is w);
  }

  last_of : (q : RequestFields) (at : ℕ) → Open (name_of q) → IsLastMoment f s q at → IsLastMoment f t q at
  last_of q at is last = record {
    inside = window_of f moment Open s t a q at is last.inside;
    greatest = λ other w. last.greatest other (window_of f moment Open t s b q other is w);
  }

  pub covers_from : (i : Invocation) → moment ≤ i.at → Covers f s i → Covers f t i
  covers_from i from c = record {
    request = c.request;
    cmnd = c.cmnd;
    window = window_from f moment Open s t a c.request i.at from c.window;
    user = c.user;
    host = c.host;
    target = c.target;
    of_request = c.of_request;
    matches_it = c.matches_it;
  }

  pub live_one : (at : ℕ) (l : LiveGrant) → moment ≤ at → IsLive f s at l → IsLive f t at l
  live_one at l from is =
      let still : Open (name_of is.request) = a.stands is.request at from is.inside in
      record {
        request = is.request;
        named = is.named;
        ceiling_is = is.ceiling_is;
        inside = window_of f moment Open s t a is.request at still is.inside;
        first = first_of is.request l.window.start still is.first;
        last = last_of is.request l.window.end still is.last;
      }

  pub line_from : (host : List ℕ) (line : Line) → (is : IsLine f s host line) → moment ≤ is.last → IsLine f t host line
  line_from host line is from =
      let still : Open (name_of is.request) = a.stands is.request is.last from is.last_is.inside in
      record {
        request = is.request;
        first = is.first;
        last = is.last;
        cmnd = is.cmnd;
        names_host = is.names_host;
        first_is = first_of is.request is.first still is.first_is;
        last_is = last_of is.request is.last still is.last_is;
        cmnd_is = is.cmnd_is;
        name_is = is.name_is;
        rule_is = is.rule_is;
      }

  -- ---- statuses

  admitted : (name : RequestName) (P Q : RequestFields → Type 0) → Open name
      → ((q : RequestFields) → Open (name_of q) → P q → Q q) → IsAdmitted f s name P → IsAdmitted f t name Q
  admitted name P Q is more x = record {
    request = x.request;
    named = x.named;
    alone = statuses.stands_alone s t x.request a.requests x.alone;
    admissible = x.admissible;
    is = more x.request (subst Open (sym (name_from_named x.request name x.named)) is) x.is;
  }

  refused_of : (q : RequestFields) → Open (name_of q) → IsRefused f t q → IsRefused f s q
  refused_of q is r = statuses.refused f t s q (b.given q is) r

  complete_of : (q : RequestFields) (at : ℕ) → Open (name_of q) → IsComplete f t q at → IsComplete f s q at
  complete_of q at is c = statuses.complete f t s q at (b.given q is) c

  pub status_of : (name : RequestName) (status : Status) → Open name → IsStatus f s name status → IsStatus f t name status
  status_of name Disputed is x = disputed_same s t name (λ q. (a.requests q).0) x
  status_of name Lapsed is x =
      record { request = x.request; named = x.named; alone = statuses.stands_alone s t x.request a.requests x.alone; inadmissible = x.inadmissible }
  status_of name Refused is x = admitted name (IsRefused f s) (IsRefused f t) is (λ q here. statuses.refused f s t q (a.given q here)) x
  status_of name Waiting is x =
      admitted name _ _ is (λ q here w. (λ r. w.0 (refused_of q here r), λ at c. w.1 at (complete_of q at here c))) x
  status_of name Void is x =
      admitted name _ _ is (λ q here v. record {
        unrefused = λ r. v.unrefused (refused_of q here r);
        complete = v.complete;
        complete_is = statuses.complete f s t q v.complete (a.given q here) v.complete_is;
        empty = λ at w. v.empty at (window_of f moment Open t s b q at here w);
      }) x
  status_of name (Granted w) is x = admitted name _ _ is (λ q here g. (first_of q w.start here g.0, last_of q w.end here g.1)) x

  pub outcome_of : (name : RequestName) (o : Option Status) → Open name → ComesTo f s name o → ComesTo f t name o
  outcome_of name None is nobody = λ q h named. nobody q ((a.requests q).1 h) named
  outcome_of name (Some status) is x = status_of name status is x

module _ (f : RosterFields Cmnd) (moment : ℕ) (Open : RequestName → Type 0) (s t : List Message) (a : AlikeFrom f moment Open s t) where
  abbrev c : AlikeFrom f moment Open t s
  c = turned f moment Open s t a

  pub live_from : (at : ℕ) (list : List LiveGrant) → moment ≤ at → AreLive f s at list → AreLive f t at list
  live_from at list from are = record {
    in_order = are.in_order;
    each = λ l m. live_one f moment Open s t a at l from (are.each l m);
    all = λ l is. are.all l (live_one f moment Open t s c at l from is);
  }

  -- a line that is left of the first set's is left of the other's
  left_too : (host : List ℕ) (at : ℕ) (xs ys : List Line) → moment ≤ at → AreLines f s host xs → AreLines f t host ys
      → (line : Line) → Contains (lines_after at xs) line → Contains (lines_after at ys) line
  unfolding line_from
  left_too host at xs ys from x y line m =
      let there : Contains xs line = was_there (λ (l : Line). stays (Some at) l.rule) xs line m in
      let is : IsLine f s host line = x.each line there in
      let ends : at ≤ is.last = ((left_exactly f s host at xs line is).0 m).1 in
      let also : IsLine f t host line = line_from f moment Open s t a host line is (omega (arith, from, ends)) in
      (left_exactly f t host at ys line also).1 (y.all line also, ends)

  pub rights_from : (base : List Entry) (host : List ℕ) (at : ℕ) (text : List ℕ) → moment ≤ at
      → GivesRightsAfter f base s host at text → GivesRightsAfter f base t host at text
  rights_from base host at text from gives = record {
    policy = gives.policy;
    spelled = gives.spelled;
    only = gives.only;
    covered = λ i here late is. gives.covered i here late (covers_from f moment Open t s c i (omega (arith, from, late)) is);
    bare = λ i d here late bare decides.
        gives.bare i d here late (λ is. bare (covers_from f moment Open s t a i (omega (arith, from, late)) is)) decides;
  }

module _ (f : RosterFields Cmnd) (moment : ℕ) (Open : RequestName → Type 0) (s t : List Message) (a : AlikeFrom f moment Open s t) where
  pub lines_from : (host : List ℕ) (at : ℕ) (xs ys : List Line) → moment ≤ at → AreLines f s host xs → AreLines f t host ys
      → lines_after at xs ≡ lines_after at ys
  lines_from host at xs ys from x y =
      let test : Line → Bool = λ l. stays (Some at) l.rule in
      same_lists LinePrecedes lines_strict (lines_after at xs) (lines_after at ys)
      (left_in_order test LinePrecedes xs x.in_order) (left_in_order test LinePrecedes ys y.in_order)
      (left_too f moment Open s t a host at xs ys from x y)
      (left_too f moment Open t s (turned f moment Open s t a) host at ys xs from y x)
