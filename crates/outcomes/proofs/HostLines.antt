-- The rules that the summaries of a set give a host are those of its lines.
use Rattle.std.proofs.Common.{◌≡◌, ℕ, zero, suc, ◌+◌, ◌<◌, ◌≤◌, leb, Bool, true, false, cond, List, [], ◌∷◌}
use Rattle.std.proofs.Common.{◌++◌, map, length, Option, Some, None, refl, sym, ap, ◌∙◌, subst, inl, inr, arith}
use Rattle.std.specs.List.{Contains, filter, list_any, slice_get}
use Rattle.std.specs.Str.{bytes_eq}
use Rattle.std.proofs.lemmas.Bool.{leb-true, le-leb}
use Rattle.std.proofs.lemmas.List.{length-map, map-append}
use Rattle.std.proofs.lemmas.List.Elements.{Contains-append_left}
use Rattle.sudo_words.specs.declared.cmnd.Cmnd.{Cmnd}
use Rattle.sudo_policy.specs.declared.entry.Rule.{Rule}
use Rattle.messages.specs.Fields.{RequestFields}
use Rattle.messages.specs.Names.{name_of}
use Rattle.messages.specs.declared.request_name.RequestName.{RequestName}
use Rattle.messages.specs.declared.message.Message.{Message}
use Rattle.roster.specs.Fields.{RosterFields}
use Rattle.grants.specs.GrantRules.{grant_rule, rules_for}
use Rattle.grants.specs.Statuses.{IsFirstMoment, IsLastMoment, IsStatus}
use Rattle.grants.specs.Summaries.{Kept, StandsFor}
use Rattle.grants.specs.declared.outcome.Status.{Status}
use Rattle.grants.specs.declared.outcome.Status.TheVariants.{Disputed, Lapsed, Refused, Waiting, Void, Granted}
use Rattle.grants.specs.declared.outcome.Window.{Window}
use Rattle.outcomes.specs.Summaries.{SummaryPrecedes}
use Rattle.grants.specs.GrantLines.{rules_left, stays}
use Rattle.outcomes.specs.private.Index.{is_left}
use Rattle.outcomes.specs.private.InTurn.{Give}
use Rattle.messages.specs.Order.{AllAfter, AreInOrder}
use Rattle.outcomes.specs.HostFile.{Line, IsLine, LinePrecedes, AreLines}
use Rattle.outcomes.specs.LinesLeft.{lines_left}
use Rattle.outcomes.proofs.Filters.{kept, left_in_order, left_of_given, left_of_map, passes, was_there}
use Rattle.outcomes.proofs.GivenLists.{IsLeftAt, IsRoll, IsRollOf, given_by, given_in_order, gives}
use Rattle.outcomes.proofs.Membership.{no_member, Contains-head, Contains-behind, Contains-cases, member_from_test, test_from_member}
use Rattle.outcomes.proofs.Orders.{lines_strict, no_longer, ordered_front, same_lists}

-- ---- the lines of one request

abbrev pub line_at : List ℕ → RequestFields → (first last place : ℕ) → Cmnd → Line
line_at host q first last place c = record { name = name_of q; place = place; rule = grant_rule host q first last c }

abbrev pub cmnd_lines : List ℕ → RequestFields → (first last place : ℕ) → List Cmnd → List Line
cmnd_lines host q first last place [] = []
cmnd_lines host q first last place (c ∷ cs) = line_at host q first last place c ∷ cmnd_lines host q first last (suc place) cs

abbrev pub lines_for : List ℕ → RequestFields → Status → List Line
lines_for host q Disputed = []
lines_for host q Lapsed = []
lines_for host q Refused = []
lines_for host q Waiting = []
lines_for host q Void = []
lines_for host q (Granted w) = cond (list_any (λ h. bytes_eq h host) q.hosts) (cmnd_lines host q w.start w.end 0 q.cmnds) []

-- ---- their rules

abbrev pub rule_in : Line → Rule
rule_in line = line.rule

cmnd_rules : (host : List ℕ) (q : RequestFields) (first last place : ℕ) (cs : List Cmnd)
    → map rule_in (cmnd_lines host q first last place cs) ≡ map (grant_rule host q first last) cs
cmnd_rules host q first last place [] = refl
cmnd_rules host q first last place (c ∷ cs) =
    ap (λ (rs : List Rule). grant_rule host q first last c ∷ rs) (cmnd_rules host q first last (suc place) cs)

either_rules : (b : Bool) (lines : List Line) (rules : List Rule) → map rule_in lines ≡ rules → map rule_in (cond b lines []) ≡ cond b rules []
either_rules true lines rules h = h
either_rules false lines rules h = refl

rules_of_lines : (host : List ℕ) (q : RequestFields) (status : Status) → map rule_in (lines_for host q status) ≡ rules_for host q status
rules_of_lines host q Disputed = refl
rules_of_lines host q Lapsed = refl
rules_of_lines host q Refused = refl
rules_of_lines host q Waiting = refl
rules_of_lines host q Void = refl
rules_of_lines host q (Granted w) =
    either_rules (list_any (λ h. bytes_eq h host) q.hosts) (cmnd_lines host q w.start w.end 0 q.cmnds)
    (map (grant_rule host q w.start w.end) q.cmnds) (cmnd_rules host q w.start w.end 0 q.cmnds)

-- the lines whose rules these are
pub lines_given : (f : RosterFields Cmnd) (set : List Message) (host : List ℕ) (ks : List Kept) (rules : List Rule)
    → Give f set (rules_for host) ks rules → (lines : List Line) × Give f set (lines_for host) ks lines × (rules ≡ map rule_in lines)
lines_given f set host [] rules g = ([], refl, g)
lines_given f set host (k ∷ ks) rules g =
    let more = lines_given f set host ks g.0 g.2 in (
      lines_for host k.request g.1 ++ more.0,
      (more.0, g.1, more.1, g.3, refl),
      g.4
          ∙ ap (λ (rs : List Rule). rs ++ g.0) (sym (rules_of_lines host k.request g.1))
          ∙ ap (λ (rs : List Rule). map rule_in (lines_for host k.request g.1) ++ rs) more.2
          ∙ sym (map-append rule_in (lines_for host k.request g.1) more.0),
    )

-- and if these are only the rules that are left, all the lines that they are left from
pub left_given : (f : RosterFields Cmnd) (set : List Message) (host : List ℕ) (after : Option ℕ) (ks : List Kept) (rules : List Rule)
    → Give f set (rules_left after host) ks rules → (lines : List Line) × Give f set (lines_for host) ks lines × (rules ≡ map rule_in (lines_left after lines))
left_given f set host after ks rules g =
    let all = left_of_given f set (rules_for host) (stays after) ks rules g in
    let found = lines_given f set host ks all.0 all.1 in
    (found.0, found.1, all.2 ∙ ap (filter (stays after)) found.2 ∙ left_of_map (stays after) rule_in found.0)

-- ---- the line of a command, by its place

record IsCmndLine (host : List ℕ) (q : RequestFields) (first last low : ℕ) (cs : List Cmnd) (line : Line) : Type 0 where
  behind : ℕ
  cmnd : Cmnd
  cmnd_is : slice_get cs behind ≡ Some cmnd
  line_is : line ≡ line_at host q first last (low + behind) cmnd

cmnd_line_later : (host : List ℕ) (q : RequestFields) (first last low : ℕ) (c : Cmnd) (cs : List Cmnd) (line : Line)
    → IsCmndLine host q first last (suc low) cs line → IsCmndLine host q first last low (c ∷ cs) line
cmnd_line_later host q first last low c cs line l =
    let moved : suc low + l.behind ≡ low + suc l.behind = omega arith in
    record {
      behind = suc l.behind;
      cmnd = l.cmnd;
      cmnd_is = l.cmnd_is;
      line_is = l.line_is ∙ ap (λ (p : ℕ). line_at host q first last p l.cmnd) moved;
    }

cmnd_line_is : (host : List ℕ) (q : RequestFields) (first last low : ℕ) (cs : List Cmnd) (line : Line)
    → Contains (cmnd_lines host q first last low cs) line → IsCmndLine host q first last low cs line
cmnd_line_is host q first last low [] line m = absurd (no_member line m)
cmnd_line_is host q first last low (c ∷ cs) line m =
    elim (Contains-cases (line_at host q first last low c) (cmnd_lines host q first last (suc low) cs) line m)
    as (λ _. IsCmndLine host q first last low (c ∷ cs) line) [
      | inl here ↦
          let same : low ≡ low + 0 = omega arith in
          record { behind = 0; cmnd = c; cmnd_is = refl; line_is = sym here ∙ ap (λ (p : ℕ). line_at host q first last p c) same }
      | inr later ↦ cmnd_line_later host q first last low c cs line (cmnd_line_is host q first last (suc low) cs line later)
    ]

has_cmnd_line : (host : List ℕ) (q : RequestFields) (first last low : ℕ) (cs : List Cmnd) (k : ℕ) (c : Cmnd)
    → slice_get cs k ≡ Some c → Contains (cmnd_lines host q first last low cs) (line_at host q first last (low + k) c)
has_cmnd_line host q first last low [] k c h = absurd cc
has_cmnd_line host q first last low (d ∷ ds) zero c h =
    let same : d ≡ c = cc in
    let place : low ≡ low + 0 = omega arith in
    let line : line_at host q first last low d ≡ line_at host q first last (low + 0) c =
    ap (λ (x : Cmnd). line_at host q first last low x) same ∙ ap (λ (p : ℕ). line_at host q first last p c) place in
    subst (λ (l : Line). Contains (cmnd_lines host q first last low (d ∷ ds)) l) line
    (Contains-head (line_at host q first last low d) (cmnd_lines host q first last (suc low) ds))
has_cmnd_line host q first last low (d ∷ ds) (suc k) c h =
    let place : suc low + k ≡ low + suc k = omega arith in
    subst (λ (p : ℕ). Contains (cmnd_lines host q first last low (d ∷ ds)) (line_at host q first last p c)) place (Contains-behind (line_at host q first
    last low d) (cmnd_lines host q first last (suc low) ds) (line_at host q first last (suc low + k) c) (has_cmnd_line host q first last (suc low) ds k c h))

chosen : (b : Bool) (lines : List Line) (line : Line) → Contains (cond b lines []) line → (b ≡ true) × Contains lines line
chosen true lines line m = (refl, m)
chosen false lines line m = absurd (no_member line m)

record IsGrantedLine (host : List ℕ) (q : RequestFields) (status : Status) (line : Line) : Type 0 where
  window : Window
  granted : status ≡ Granted window
  among : list_any (λ h. bytes_eq h host) q.hosts ≡ true
  of_cmnd : IsCmndLine host q window.start window.end 0 q.cmnds line

granted_line : (host : List ℕ) (q : RequestFields) (status : Status) (line : Line) → Contains (lines_for host q status) line → IsGrantedLine host q status line
granted_line host q Disputed line m = absurd (no_member line m)
granted_line host q Lapsed line m = absurd (no_member line m)
granted_line host q Refused line m = absurd (no_member line m)
granted_line host q Waiting line m = absurd (no_member line m)
granted_line host q Void line m = absurd (no_member line m)
granted_line host q (Granted w) line m =
    let both = chosen (list_any (λ h. bytes_eq h host) q.hosts) (cmnd_lines host q w.start w.end 0 q.cmnds) line m in
    record { window = w; granted = refl; among = both.0; of_cmnd = cmnd_line_is host q w.start w.end 0 q.cmnds line both.1 }

own_name : (host : List ℕ) (q : RequestFields) (status : Status) (line : Line) → Contains (lines_for host q status) line → line.name ≡ name_of q
own_name host q status line m = ap (λ (l : Line). l.name) (granted_line host q status line m).of_cmnd.line_is

-- ---- order

lower_places : (host : List ℕ) (q : RequestFields) (first last : ℕ) (line : Line) (low : ℕ) (cs : List Cmnd)
    → line.name ≡ name_of q → line.place < low → AllAfter LinePrecedes line (cmnd_lines host q first last low cs)
lower_places host q first last line low [] named below = tt
lower_places host q first last line low (c ∷ cs) named below =
    (inr (named, below), lower_places host q first last line (suc low) cs named (omega (arith, below)))

cmnd_lines_ordered : (host : List ℕ) (q : RequestFields) (first last low : ℕ) (cs : List Cmnd) → AreInOrder LinePrecedes (cmnd_lines host q first last low cs)
cmnd_lines_ordered host q first last low [] = tt
cmnd_lines_ordered host q first last low (c ∷ cs) =
    (lower_places host q first last (line_at host q first last low c) (suc low) cs refl (omega arith), cmnd_lines_ordered host q first last (suc low) cs)

either_ordered : (b : Bool) (lines : List Line) → AreInOrder LinePrecedes lines → AreInOrder LinePrecedes (cond b lines [])
either_ordered true lines h = h
either_ordered false lines h = tt

each_ordered : (host : List ℕ) (q : RequestFields) (status : Status) → AreInOrder LinePrecedes (lines_for host q status)
each_ordered host q Disputed = tt
each_ordered host q Lapsed = tt
each_ordered host q Refused = tt
each_ordered host q Waiting = tt
each_ordered host q Void = tt
each_ordered host q (Granted w) =
    either_ordered (list_any (λ h. bytes_eq h host) q.hosts) (cmnd_lines host q w.start w.end 0 q.cmnds) (cmnd_lines_ordered host q w.start w.end 0 q.cmnds)

-- ---- the set's

-- if a name is granted, its summary's request is the granted one
pub granted_moments : (f : RosterFields Cmnd) (set : List Message) (k : Kept) (w : Window) → StandsFor set k
    → IsStatus f set (name_of k.request) (Granted w) → IsFirstMoment f set k.request w.start × IsLastMoment f set k.request w.end
granted_moments f set k w stands is =
    let own : k.request ≡ is.request = is.alone.alone k.request stands.asked (sym is.named.0, sym is.named.1) in
    subst (λ (q : RequestFields). IsFirstMoment f set q w.start × IsLastMoment f set q w.end) (sym own) is.is

pub granted_name : (f : RosterFields Cmnd) (set : List Message) (q : RequestFields) (first last : ℕ) → IsFirstMoment f set q first
    → IsLastMoment f set q last → IsStatus f set (name_of q) (Granted (record { start = first; end = last }))
granted_name f set q first last a b = record {
  request = q;
  named = (refl, refl);
  alone = a.inside.alone;
  admissible = a.inside.admissible;
  is = (a, b);
}

module _ (f : RosterFields Cmnd) (set : List Message) (host : List ℕ) where
  pub lines_ordered : (ks : List Kept) (lines : List Line) → AreInOrder SummaryPrecedes ks
      → Give f set (lines_for host) ks lines → AreInOrder LinePrecedes lines
  lines_ordered ks lines o g =
      given_in_order f set (lines_for host) LinePrecedes (λ (l : Line). l.name) (own_name host) (each_ordered host) (λ x y b. inl b) ks lines o g

  granted_is_line : (k : Kept) (status : Status) (line : Line) → StandsFor set k
      → IsStatus f set (name_of k.request) status → IsGrantedLine host k.request status line → IsLine f set host line
  granted_is_line k status line stands is l =
      let moments = granted_moments f set k l.window stands (subst (IsStatus f set (name_of k.request)) l.granted is) in
      let c = l.of_cmnd in
      let place : line.place ≡ 0 + c.behind = ap (λ (x : Line). x.place) c.line_is in
      let at : c.behind ≡ line.place = omega (arith, place) in
      record {
        request = k.request;
        first = l.window.start;
        last = l.window.end;
        cmnd = c.cmnd;
        names_host = member_from_test k.request.hosts host l.among;
        first_is = moments.0;
        last_is = moments.1;
        cmnd_is = subst (λ (p : ℕ). slice_get k.request.cmnds p ≡ Some c.cmnd) at c.cmnd_is;
        name_is = ap (λ (x : Line). x.name) c.line_is;
        rule_is = ap (λ (x : Line). x.rule) c.line_is;
      }

  pub each_line : (ks : List Kept) (lines : List Line) → ((k : Kept) → Contains ks k → StandsFor set k)
      → Give f set (lines_for host) ks lines → (line : Line) → Contains lines line → IsLine f set host line
  each_line ks lines stands g line m =
      let found = given_by f set (lines_for host) ks lines g line m in
      granted_is_line found.k found.status line (stands found.k found.among) found.status_is (granted_line host found.k.request found.status line found.given)

  -- a line is its fields
  line_from_fields : (line : Line) (q : RequestFields) (first last : ℕ) (c : Cmnd) → line.name ≡ name_of q
      → line.rule ≡ grant_rule host q first last c → line_at host q first last line.place c ≡ line
  line_from_fields line q first last c n r =
      let at : RequestName → Rule → Line = λ x s. record { name = x; place = line.place; rule = s } in
      sym (ap (λ (x : RequestName). at x line.rule) n ∙ ap (λ (s : Rule). at (name_of q) s) r)

  line_inside : (line : Line) (l : IsLine f set host line) → Contains (lines_for host l.request (Granted (record { start = l.first; end = l.last }))) line
  line_inside line l =
      let q = l.request in
      let place : 0 + line.place ≡ line.place = omega arith in
      let inside = has_cmnd_line host q l.first l.last 0 q.cmnds line.place l.cmnd l.cmnd_is in
      let there = subst (λ (p : ℕ). Contains (cmnd_lines host q l.first l.last 0 q.cmnds) (line_at host q l.first l.last p l.cmnd)) place inside in
      let same = line_from_fields line q l.first l.last l.cmnd l.name_is l.rule_is in
      subst (λ (b : Bool). Contains (cond b (cmnd_lines host q l.first l.last 0 q.cmnds) []) line)
      (sym (test_from_member q.hosts host l.names_host)) (subst (λ (x : Line). Contains (cmnd_lines host q l.first l.last 0 q.cmnds) x) same there)

  -- a line whose request is that of one of the summaries is among theirs
  line_among : (P : RequestFields → Type 0) (ks : List Kept) → IsRollOf set P ks → (lines : List Line) → Give f set (lines_for host) ks lines
      → (line : Line) → (l : IsLine f set host line) → P l.request → Contains lines line
  line_among P ks roll lines given line l held =
      let found = roll.alone l.request l.first_is.inside.alone held in
      let k = found.0 in
      let status : Status = Granted (record { start = l.first; end = l.last }) in
      let is =
      subst (λ (q : RequestFields). IsStatus f set (name_of q) status) (sym found.2) (granted_name f set l.request l.first l.last l.first_is l.last_is) in
      gives f set (lines_for host) ks lines given k found.1 status is line
      (subst (λ (q : RequestFields). Contains (lines_for host q status) line) (sym found.2) (line_inside line l))

  -- no window ends later than its request asks for
  asked_past : (after : Option ℕ) (line : Line) → (l : IsLine f set host line) → stays after line.rule ≡ true → is_left after l.request.until ≡ true
  asked_past None line l left = refl
  asked_past (Some moment) line l left =
      let ends : leb moment l.last ≡ true = sym (ap (stays (Some moment)) l.rule_is) ∙ left in
      le-leb moment l.request.until (omega (arith, leb-true moment l.last ends, l.last_is.inside.until))

  -- what is left of the lines of the requests that ask for an end that is left is what is left of all lines
  pub same_left : (after : Option ℕ) (ks : List Kept) → IsRollOf set (IsLeftAt host after) ks → (lines all : List Line)
      → Give f set (lines_for host) ks lines → AreLines f set host all → lines_left after lines ≡ lines_left after all
  same_left after ks roll lines all given are =
      let p : Line → Bool = λ line. stays after line.rule in
      same_lists LinePrecedes lines_strict (lines_left after lines) (lines_left after all)
      (left_in_order p LinePrecedes lines (lines_ordered ks lines roll.in_order given)) (left_in_order p LinePrecedes all are.in_order)
      (λ line m. kept p all line (are.all line (each_line ks lines roll.stands given line (was_there p lines line m))) (passes p lines line m))
      (λ line m.
      let l = are.each line (was_there p all line m) in
      let left = passes p all line m in
      kept p lines line (line_among (IsLeftAt host after) ks roll lines given line l (l.names_host, asked_past after line l left)) left)

  -- the first few summaries leave no more lines than the set does
  pub some_lines : (ks : List Kept) → AreInOrder SummaryPrecedes ks → ((k : Kept) → Contains ks k → StandsFor set k)
      → (after : Option ℕ) (seen rest : List Kept) (rules : List Rule) (all : List Line) → seen ++ rest ≡ ks
      → Give f set (rules_left after host) seen rules → AreLines f set host all → length rules ≤ length (lines_left after all)
  some_lines ks in_order stands_all after seen rest rules all split given are =
      let found = left_given f set host after seen rules given in
      let ordered = ordered_front SummaryPrecedes seen rest (subst (AreInOrder SummaryPrecedes) (sym split) in_order) in
      let stands : (k : Kept) → Contains seen k → StandsFor set k =
      λ k h. stands_all k (subst (λ (l : List Kept). Contains l k) split (Contains-append_left seen rest k h)) in
      let p : Line → Bool = λ line. stays after line.rule in
      let inside : (line : Line) → Contains (lines_left after found.0) line → Contains (lines_left after all) line =
      λ line h. kept p all line (are.all line (each_line seen found.0 stands found.1 line (was_there p found.0 line h))) (passes p found.0 line h) in
      let fewer = no_longer LinePrecedes lines_strict (lines_left after found.0) (lines_left after all)
      (left_in_order p LinePrecedes found.0 (lines_ordered seen found.0 ordered found.1)) (left_in_order p LinePrecedes all are.in_order) inside in
      omega (arith, fewer, ap length found.2, length-map (lines_left after found.0) rule_in)

  pub are_lines : (ks : List Kept) → IsRoll set ks → (lines : List Line) → Give f set (lines_for host) ks lines → AreLines f set host lines
  are_lines ks roll lines given = record {
    in_order = lines_ordered ks lines roll.in_order given;
    each = each_line ks lines roll.stands given;
    all = λ line l. line_among (λ q. Unit {0}) ks roll lines given line l tt;
  }
