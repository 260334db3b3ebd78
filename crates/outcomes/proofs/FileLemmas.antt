-- A host's file, from its lines' rules.
use Rattle.std.proofs.Common.{◌≡◌, ℕ, ◌+◌, ◌<◌, ◌≤◌, leb, Bool, true, List, [], ◌∷◌, ◌++◌, map, length}
use Rattle.std.proofs.Common.{Option, Some, None, refl, sym, ap, ◌∙◌, subst, inl, inr, arith, append_assoc, length-append}
use Rattle.std.specs.Prelude.{◌↔◌, Contains}
use Rattle.std.specs.List.{AllByRecursion}
use Rattle.std.proofs.lemmas.Bool.{leb-true, le-leb}
use Rattle.std.proofs.lemmas.List.{append-nil, length-map, map-append}
use Rattle.std.proofs.lemmas.List.Elements.{All-contains, filter_agree}
use Rattle.sudo_words.specs.Word.{is_host_name}
use Rattle.sudo_words.specs.Command.{IsLawful}
use Rattle.sudo_words.specs.declared.cmnd.Cmnd.{Cmnd}
use Rattle.messages.specs.Fields.{IsRequest}
use Rattle.messages.specs.Wire.{IsMessage}
use Rattle.messages.specs.declared.message.Message.{Message}
use Rattle.messages.specs.declared.message.Message.TheVariants.{Request}
use Rattle.sudo_policy.specs.declared.entry.Rule.{Rule}
use Rattle.sudo_policy.specs.declared.entry.Entry.{Entry}
use Rattle.sudo_policy.specs.declared.entry.Entry.TheVariants as entries
use Rattle.sudo_policy.specs.Policy.{IsPolicy}
use Rattle.sudo_policy.specs.Printing.{canon}
use Rattle.sudo_policy.specs.Reading.{with_rules}
use Rattle.sudo_policy.specs.Spelling.{Spells}
use Rattle.sudo_policy.proofs.Canon.{canon_spells}
use Rattle.sudo_policy.proofs.One.{text_one}
use Rattle.sudo_policy.proofs.PolicyFronts.{canon_both}
use Rattle.roster.specs.Fields.{RosterFields}
use Rattle.grants.specs.Bases.{FitsBase}
use Rattle.grants.specs.GrantRules.{IsGrantRule, grant_tags}
use Rattle.grants.specs.Summaries.{Kept}
use Rattle.grants.specs.GrantLines.{AreWritten, lasts_until, rules_left, stays}
use Rattle.grants.proofs.LawfulRules.{extended_policy}
use Rattle.outcomes.specs.private.Behind.{AreBehind, AreNamesLines}
use Rattle.outcomes.specs.private.Index.{if_kept}
use Rattle.outcomes.specs.private.InTurn.{Give}
use Rattle.grants.specs.declared.host_fault.HostFault.{HostFault}
use Rattle.grants.specs.declared.host_fault.HostFault.TheVariants.{NoMemory}
use Rattle.sudo_decide.specs.Decision.{is_not_after}
use Rattle.sudo_decide.specs.declared.invocation.Invocation.{Invocation}
use Rattle.outcomes.specs.HostFile.{Line, IsLine, LinePrecedes, AreLines, IsHostFile, IsHostFileAfter, lines_after, with_lines}
use Rattle.outcomes.specs.LinesLeft.{IsFileLeft, IsPast, lines_left}
use Rattle.outcomes.specs.Rights.{GivesRights, GivesRightsAfter}
use Rattle.outcomes.proofs.Filters.{all_left, kept, passes, was_there}
use Rattle.outcomes.proofs.GivenLists.{IsLeftAt, IsRollOf, all_both, one_given}
use Rattle.outcomes.proofs.HostLines.{left_given, rule_in, same_left}
use Rattle.outcomes.proofs.Headline.{SpeakFor, all_speak, bare_as_base, covered_allowed, entries_of_rules, left_speak}
use Rattle.outcomes.proofs.Membership.{Contains-head, Contains-behind, Contains-from_get}
use Rattle.outcomes.proofs.Orders.{lines_strict, same_lists}

-- ---- one list of lines

pub one_lines : (f : RosterFields Cmnd) (set : List Message) (host : List ℕ) (xs ys : List Line) → AreLines f set host xs → AreLines f set host ys → xs ≡ ys
one_lines f set host xs ys x y =
    same_lists LinePrecedes lines_strict xs ys x.in_order y.in_order (λ line m. y.all line (x.each line m)) (λ line m. x.all line (y.each line m))

pub one_file : (f : RosterFields Cmnd) (base : List Entry) (set : List Message) (host x y : List ℕ)
    → IsHostFile f base set host x → IsHostFile f base set host y → x ≡ y
one_file f base set host x y a b =
    a.text_is ∙ ap (λ (lines : List Line). canon (with_lines base lines)) (one_lines f set host a.lines b.lines a.lines_are b.lines_are) ∙ sym b.text_is

pub one_file_after : (f : RosterFields Cmnd) (base : List Entry) (set : List Message) (host : List ℕ) (moment : ℕ) (x y : List ℕ)
    → IsHostFileAfter f base set host moment x → IsHostFileAfter f base set host moment y → x ≡ y
one_file_after f base set host moment x y a b =
    a.text_is
    ∙ ap (λ (lines : List Line). canon (with_lines base (lines_after moment lines))) (one_lines f set host a.lines b.lines a.lines_are b.lines_are)
    ∙ sym b.text_is

-- ---- the rules of what is left of a set's lines

abbrev pub HasRules : RosterFields Cmnd → List Message → List ℕ → Option ℕ → List Rule → Type 0
HasRules f set host after rules = (lines : List Line) × AreLines f set host lines × (rules ≡ map rule_in (lines_left after lines))

pub has_rules : (f : RosterFields Cmnd) (set : List Message) (host : List ℕ) (after : Option ℕ) (ks : List Kept) (rules : List Rule) (all : List Line)
    → AreLines f set host all → IsRollOf set (IsLeftAt host after) ks → Give f set (rules_left after host) ks rules → HasRules f set host after rules
has_rules f set host after ks rules all are roll given =
    let found = left_given f set host after ks rules given in
    (all, are, found.2 ∙ ap (map rule_in) (same_left f set host after ks roll found.0 all found.1 are))

pub extended : (base : List Entry) (rules : List Rule) (lines : List Line) → rules ≡ map rule_in lines → with_rules base rules ≡ with_lines base lines
extended base rules lines e =
    ap (λ (rs : List Rule). base ++ map entries.Rule rs) e ∙ ap (λ (es : List Entry). base ++ es) (entries_of_rules lines)

pub is_left : (f : RosterFields Cmnd) (base : List Entry) (set : List Message) (host : List ℕ) (after : Option ℕ) (text : List ℕ) (rules : List Rule)
    → HasRules f set host after rules → text ≡ canon (with_rules base rules) → Spells text (with_rules base rules) → IsFileLeft f base set host after text
is_left f base set host after text rules found e spells =
    let same = extended base rules (lines_left after found.0) found.2 in
    record { lines = found.0; lines_are = found.1; text_is = e ∙ ap canon same; spelled = subst (Spells text) same spells }

pub same_count : (f : RosterFields Cmnd) (set : List Message) (host : List ℕ) (after : Option ℕ) (rules : List Rule) (lines : List Line)
    → HasRules f set host after rules → AreLines f set host lines → length rules ≡ length (lines_left after lines)
same_count f set host after rules lines found are =
    ap length found.2
    ∙ length-map (lines_left after found.0) rule_in
    ∙ ap (λ (ls : List Line). length (lines_left after ls)) (one_lines f set host found.0 lines found.1 are)

-- ---- lines behind a text

-- the text of one list of rules after another
pub canon_more : (xs ys : List Rule) → canon (map entries.Rule (xs ++ ys)) ≡ canon (map entries.Rule xs) ++ canon (map entries.Rule ys)
canon_more xs ys =
    ap canon (map-append entries.Rule xs ys) ∙ canon_both (map entries.Rule xs) (map entries.Rule ys)

-- one turn: the lines of one summary more
pub one_behind : (f : RosterFields Cmnd) (set : List Message) (host : List ℕ) (after : Option ℕ) (seen : List Kept)
    (k : Kept) (first old new : List ℕ) (count more : ℕ) → (rules : List Rule) × Give f set (rules_left after host) seen rules
    × AllByRecursion IsGrantRule rules × (old ≡ first ++ canon (map entries.Rule rules)) × (count ≡ length rules)
    → AreWritten f set k.request host after old new more → (all : List Rule) × Give f set (rules_left after host) (seen ++ k ∷ []) all
    × AllByRecursion IsGrantRule all × (new ≡ first ++ canon (map entries.Rule all)) × (count + more ≡ length all)
one_behind f set host after seen k first old new count more before w =
    let rules = before.0 in
    let here = rules_left after host k.request w.status in (
      rules ++ here,
      one_given f set (rules_left after host) seen k rules (rules ++ here) before.1 (w.status, w.status_is, refl),
      all_both IsGrantRule rules here before.2 w.grants,
      w.added.text_is
          ∙ ap (λ (t : List ℕ). t ++ canon (map entries.Rule here)) before.3
          ∙ append_assoc first (canon (map entries.Rule rules)) (canon (map entries.Rule here))
          ∙ ap (λ (t : List ℕ). first ++ t) (sym (canon_more rules here)),
      rw (before.4, w.added.count_is) (sym (length-append rules here)),
    )

-- or nothing, where the name has none
pub named_behind : (f : RosterFields Cmnd) (set : List Message) (host : List ℕ) (after : Option ℕ) (seen : List Kept)
    (o : Option Kept) (first old new : List ℕ) (count more : ℕ) → (rules : List Rule) × Give f set (rules_left after host) seen rules
    × AllByRecursion IsGrantRule rules × (old ≡ first ++ canon (map entries.Rule rules)) × (count ≡ length rules)
    → AreNamesLines f set host after o old new more → (all : List Rule) × Give f set (rules_left after host) (seen ++ if_kept o) all
    × AllByRecursion IsGrantRule all × (new ≡ first ++ canon (map entries.Rule all)) × (count + more ≡ length all)
named_behind f set host after seen None first old new count more before w = (
  before.0,
  subst (λ (ks : List Kept). Give f set (rules_left after host) ks before.0) (sym (append-nil seen)) before.1,
  before.2,
  w.0 ∙ before.3,
  omega (arith, before.4, w.1),
)
named_behind f set host after seen (Some k) first old new count more before w = one_behind f set host after seen k first old new count more before w

-- the base's text and the lines after it are the file
pub is_file_left : (f : RosterFields Cmnd) (base : List Entry) (set : List Message) (host : List ℕ) (after : Option ℕ) (ks : List Kept)
    (text : List ℕ) (all : List Line) → FitsBase base → AreLines f set host all → IsRollOf set (IsLeftAt host after) ks
    → AreBehind f set host after ks (canon base) text → IsFileLeft f base set host after text
is_file_left f base set host after ks text all fits are roll b =
    let spelled = canon_spells (with_rules base b.rules) (extended_policy base b.rules fits b.few b.grants) in
    let is : text ≡ canon (with_rules base b.rules) = b.text_is ∙ sym (canon_both base (map entries.Rule b.rules)) in
    is_left f base set host after text b.rules (has_rules f set host after ks b.rules all are roll b.given) is
    (subst (λ (t : List ℕ). Spells t (with_rules base b.rules)) (sym is) spelled)

-- and in that case they are not too many
pub not_past : (f : RosterFields Cmnd) (set : List Message) (host : List ℕ) (after : Option ℕ) (ks : List Kept) (old new : List ℕ) (lines : List Line)
    → IsRollOf set (IsLeftAt host after) ks → AreBehind f set host after ks old new → AreLines f set host lines → 8_192 < length (lines_left after lines) → ⊥
not_past f set host after ks old new lines roll b are past =
    omega (arith, past, b.few, same_count f set host after b.rules lines (has_rules f set host after ks b.rules lines are roll b.given) are)

-- if the lines are few enough, only want of memory is a reason to have none
pub memory_alone : (f : RosterFields Cmnd) (set : List Message) (host : List ℕ) (after : Option ℕ) (e : HostFault) (lines : List Line)
    → IsPast f set host after e → AreLines f set host lines → length (lines_left after lines) ≤ 8_192 → e ≡ NoMemory
memory_alone f set host after e lines (inl memory) are few = memory
memory_alone f set host after e lines (inr past) are few = absurd (omega (arith, few, past.1 lines are))

-- ---- what spells the policy gives the rights

pub gives_rights : (f : RosterFields Cmnd) (base : List Entry) (set : List Message) (host text : List ℕ) (lines : List Line)
    → AreLines f set host lines → Spells text (with_lines base lines) → GivesRights f base set host text
gives_rights f base set host text lines are spelled =
    let there : (i : Invocation) → i.host ≡ host → SpeakFor f base set i lines =
    λ i here. all_speak f base set i lines (subst (λ (h : List ℕ). AreLines f set h lines) (sym here) are) in
    record {
      policy = with_lines base lines;
      spelled = spelled;
      only = λ other also. text_one text other (with_lines base lines) also spelled;
      covered = λ i here covers. covered_allowed f base set i lines (there i here) covers;
      bare = λ i d here none by. bare_as_base f base set i lines (there i here) none d by;
    }

pub gives_rights_after : (f : RosterFields Cmnd) (base : List Entry) (set : List Message) (host : List ℕ) (moment : ℕ) (text : List ℕ) (lines : List Line)
    → AreLines f set host lines → Spells text (with_lines base (lines_after moment lines)) → GivesRightsAfter f base set host moment text
gives_rights_after f base set host moment text lines are spelled =
    let left = lines_after moment lines in
    let there : (i : Invocation) → i.host ≡ host → moment ≤ i.at → SpeakFor f base set i left =
    λ i here later. left_speak f base set i lines (subst (λ (h : List ℕ). AreLines f set h lines) (sym here) are) moment later in
    record {
      policy = with_lines base left;
      spelled = spelled;
      only = λ other also. text_one text other (with_lines base left) also spelled;
      covered = λ i here later covers. covered_allowed f base set i left (there i here later) covers;
      bare = λ i d here later none by. bare_as_base f base set i left (there i here later) none d by;
    }

-- ---- without a moment the whole is left, and with one what ends then or later

nothing_ends : (base : List Entry) (lines : List Line) → with_lines base (lines_left None lines) ≡ with_lines base lines
nothing_ends base lines = ap (λ (ls : List Line). with_lines base ls) (all_left lines)

pub whole_file : (f : RosterFields Cmnd) (base : List Entry) (set : List Message) (host text : List ℕ)
    → IsFileLeft f base set host None text → IsHostFile f base set host text
whole_file f base set host text left =
    record { lines = left.lines; lines_are = left.lines_are; text_is = left.text_is ∙ ap canon (nothing_ends base left.lines) }

pub whole_rights : (f : RosterFields Cmnd) (base : List Entry) (set : List Message) (host text : List ℕ)
    → IsFileLeft f base set host None text → GivesRights f base set host text
whole_rights f base set host text left =
    gives_rights f base set host text left.lines left.lines_are (subst (Spells text) (nothing_ends base left.lines) left.spelled)

pub whole_count : (lines : List Line) → length (lines_left None lines) ≡ length lines
whole_count lines = ap length (all_left lines)

pub file_after : (f : RosterFields Cmnd) (base : List Entry) (set : List Message) (host : List ℕ) (moment : ℕ) (text : List ℕ)
    → IsFileLeft f base set host (Some moment) text → IsHostFileAfter f base set host moment text
file_after f base set host moment text left =
    record { lines = left.lines; lines_are = left.lines_are; text_is = left.text_is }

pub rights_after : (f : RosterFields Cmnd) (base : List Entry) (set : List Message) (host : List ℕ) (moment : ℕ) (text : List ℕ)
    → IsFileLeft f base set host (Some moment) text → GivesRightsAfter f base set host moment text
rights_after f base set host moment text left =
    gives_rights_after f base set host moment text left.lines left.lines_are left.spelled

-- ---- the file spells the policy

line_is_grant : (f : RosterFields Cmnd) (set : List Message) (host : List ℕ) (line : Line)
    → ((m : Message) → Contains set m → IsMessage m) → IsLine f set host line → IsGrantRule line.rule
line_is_grant f set host line known l =
    let q = l.request in
    let is : IsRequest q = known (Request q) l.first_is.inside.alone.asked in
    record {
      user = q.by;
      host = host;
      target = q.runas;
      not_before = Some l.first;
      not_after = Some l.last;
      tags = grant_tags;
      cmnd = l.cmnd;
      user_is = is.by;
      host_is = All-contains (λ (h : List ℕ). is_host_name h ≡ true) q.hosts host is.hosts.1 l.names_host;
      target_is = is.runas;
      not_before_is = omega (arith, l.first_is.inside.until, is.until);
      not_after_is = omega (arith, l.last_is.inside.until, is.until);
      lawful = All-contains IsLawful q.cmnds l.cmnd is.cmnds.1 (Contains-from_get q.cmnds line.place l.cmnd l.cmnd_is);
      rule_is = l.rule_is;
    }

grant_rules : (lines : List Line) → ((line : Line) → Contains lines line → IsGrantRule line.rule) → AllByRecursion IsGrantRule (map rule_in lines)
grant_rules [] each = tt
grant_rules (line ∷ lines) each = (each line (Contains-head line lines), grant_rules lines (λ l m. each l (Contains-behind line lines l m)))

-- some of the lines of a set behind a base within the limits are a policy, which its canonical text spells
lines_spelled : (f : RosterFields Cmnd) (base : List Entry) (set : List Message) (host : List ℕ) (lines : List Line) → FitsBase base
    → ((m : Message) → Contains set m → IsMessage m) → ((line : Line) → Contains lines line → IsLine f set host line)
    → length lines ≤ 8_192 → Spells (canon (with_lines base lines)) (with_lines base lines)
lines_spelled f base set host lines fits known each few =
    let rules = map rule_in lines in
    let grants = grant_rules lines (λ line m. line_is_grant f set host line known (each line m)) in
    let count : length rules ≤ 8_192 = omega (arith, few, length-map lines rule_in) in
    canon_spells (with_lines base lines) (subst IsPolicy (extended base rules lines refl) (extended_policy base rules fits count grants))

pub file_gives_rights : (f : RosterFields Cmnd) (base : List Entry) (set : List Message) (host text : List ℕ) → FitsBase base
    → ((m : Message) → Contains set m → IsMessage m) → (file : IsHostFile f base set host text) → length file.lines ≤ 8_192 → GivesRights f base set host text
file_gives_rights f base set host text fits known file few =
    let lines = file.lines in
    let spelled = lines_spelled f base set host lines fits known file.lines_are.each few in
    gives_rights f base set host text lines file.lines_are (subst (λ (t : List ℕ). Spells t (with_lines base lines)) (sym file.text_is) spelled)

pub file_after_gives_rights : (f : RosterFields Cmnd) (base : List Entry) (set : List Message) (host : List ℕ) (moment : ℕ) (text : List ℕ)
    → FitsBase base → ((m : Message) → Contains set m → IsMessage m) → (file : IsHostFileAfter f base set host moment text)
    → length (lines_after moment file.lines) ≤ 8_192 → GivesRightsAfter f base set host moment text
file_after_gives_rights f base set host moment text fits known file few =
    let left = lines_after moment file.lines in
    let p : Line → Bool = λ line. stays (Some moment) line.rule in
    let spelled = lines_spelled f base set host left fits known (λ line m. file.lines_are.each line (was_there p file.lines line m)) few in
    gives_rights_after f base set host moment text file.lines file.lines_are
    (subst (λ (t : List ℕ). Spells t (with_lines base left)) (sym file.text_is) spelled)

-- ---- the lines that are left

pub left_exactly : (f : RosterFields Cmnd) (set : List Message) (host : List ℕ) (moment : ℕ) (lines : List Line) (line : Line)
    → (is : IsLine f set host line) → Contains (lines_after moment lines) line ↔ (Contains lines line × (moment ≤ is.last))
left_exactly f set host moment lines line is =
    let p : Line → Bool = λ l. stays (Some moment) l.rule in
    let ends : p line ≡ leb moment is.last = ap (stays (Some moment)) is.rule_is in (
      λ m. (was_there p lines line m, leb-true moment is.last (sym ends ∙ passes p lines line m)),
      λ both. kept p lines line both.0 (ends ∙ le-leb moment is.last both.1),
    )

-- a line is left at each moment up to the last at which its rule takes part
pub lasts_as_it_takes_part : (last : Option ℕ) (moment : ℕ) → lasts_until last moment ≡ is_not_after last moment
lasts_as_it_takes_part None moment = refl
lasts_as_it_takes_part (Some last) moment = refl

pub without_a_moment : (lines : List Line) → lines_left None lines ≡ lines
without_a_moment lines = all_left lines

-- none ends before the first moment of all
none_before_first : (last : Option ℕ) → lasts_until last 0 ≡ true
none_before_first None = refl
none_before_first (Some last) = le-leb 0 last (omega arith)

all_after_first : (lines : List Line) → lines_after 0 lines ≡ lines
all_after_first lines =
    filter_agree (λ (line : Line). stays (Some 0) line.rule) (λ (line : Line). true) (λ line. none_before_first line.rule.not_after) lines
    ∙ all_left lines

pub whole_after_first : (f : RosterFields Cmnd) (base : List Entry) (set : List Message) (host text : List ℕ)
    → IsHostFileAfter f base set host 0 text ↔ IsHostFile f base set host text
whole_after_first f base set host text =
    let same : (lines : List Line) → canon (with_lines base (lines_after 0 lines)) ≡ canon (with_lines base lines) =
    λ lines. ap (λ (ls : List Line). canon (with_lines base ls)) (all_after_first lines) in (
      λ file. record { lines = file.lines; lines_are = file.lines_are; text_is = file.text_is ∙ same file.lines },
      λ file. record { lines = file.lines; lines_are = file.lines_are; text_is = file.text_is ∙ sym (same file.lines) },
    )
