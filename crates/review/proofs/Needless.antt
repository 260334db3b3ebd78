-- Where a grant is needless, the base allows what it covers, and each host's file allows the same without its lines.
use Rattle.std.proofs.Common.{◌≡◌, ℕ, ◌⊎◌, true, not, Some, None, List, [], ◌∷◌, ◌++◌, map, reverse, refl, sym, ap, ap₂, ◌∙◌, subst}
use Rattle.std.proofs.Common.{inl, inr, arith}
use Rattle.std.specs.Prelude.{◌↔◌, nat_eq}
use Rattle.std.specs.List.{Contains}
use Rattle.std.specs.Str.{bytes_eq}
use Rattle.std.proofs.lemmas.Bool.{and_parts, cases_Bool, eqb-true}
use Rattle.std.proofs.lemmas.Slice.Eq.{bytes_eq-Decides}
use Rattle.sudo_words.specs.declared.cmnd.Cmnd.{Cmnd}
use Rattle.sudo_policy.specs.declared.entry.Rule.{Rule}
use Rattle.sudo_policy.specs.declared.entry.Entry.{Entry}
use Rattle.sudo_policy.specs.declared.entry.Entry.TheVariants as entries
use Rattle.sudo_decide.specs.declared.decision.Decision.{Decision}
use Rattle.sudo_decide.specs.declared.decision.Decision.TheVariants.{Allow, AllowNoPassword}
use Rattle.sudo_decide.specs.declared.invocation.Invocation.{Invocation}
use Rattle.sudo_decide.specs.Decision.{Decides, DecidesBy, says}
use Rattle.sudo_decide.proofs.DecisionLemmas.{same_definitions}
use Rattle.sudo_decide.proofs.Speakers.{one_decision, some_decision}
use Rattle.messages.specs.Fields.{RequestFields}
use Rattle.messages.specs.Names.{name_of}
use Rattle.messages.specs.declared.request_name.RequestName.{RequestName}
use Rattle.messages.specs.declared.message.Message.{Message}
use Rattle.roster.specs.Fields.{RosterFields}
use Rattle.grants.specs.GrantRules.{grant_rule}
use Rattle.grants.specs.Statuses.{IsFirstMoment, IsLastMoment}
use Rattle.grants.specs.declared.outcome.Window.{Window}
use Rattle.outcomes.specs.Covers.{Covers}
use Rattle.outcomes.specs.HostFile.{AreLines, IsLine, Line, with_lines}
use Rattle.outcomes.proofs.Filters.{kept, was_there}
use Rattle.outcomes.proofs.GrantedRules.{Fits, fits_from_yes, grant_answers, yes_from_fits}
use Rattle.outcomes.proofs.Headline.{Grants, entries_of_rules, line_grants, one_says_yes, silent_lines, some_grants}
use Rattle.outcomes.proofs.Membership.{Contains-from_get}
use Rattle.sudo_beyond.specs.Beyond.{Allows, IsInvocation}
use Rattle.sudo_words.proofs.Lists.{contains_map}
use Rattle.sudo_words.proofs.OneSorted.{cons_cases, no_element}
use Rattle.review.specs.declared.need.Need.TheVariants.{Needless}
use Rattle.review.specs.Needs.{IsNeed, is_same_name, lines_without, own_policy}
use Rattle.review.proofs.ReportLaws.{needless_gives_nothing}

-- ---- what a grant's own rules allow

module _ (q : RequestFields) (w : Window) (i : Invocation) where
  abbrev own_line : Cmnd → Line
  own_line cmnd = record { name = name_of q; place = 0; rule = grant_rule i.host q w.start w.end cmnd }

  abbrev defined : List Entry
  defined = reverse (own_policy q w i.host)

  own_lines : (cmnds : List Cmnd)
      → map (λ (line : Line). entries.Rule line.rule) (map own_line cmnds) ≡ map entries.Rule (map (grant_rule i.host q w.start w.end) cmnds)
  own_lines [] = refl
  own_lines (cmnd ∷ cmnds) = ap (λ (es : List Entry). entries.Rule (grant_rule i.host q w.start w.end cmnd) ∷ es) (own_lines cmnds)

  each_grants : (cmnds : List Cmnd) (line : Line) → Contains (map own_line cmnds) line → Grants defined line i
  each_grants [] line there = absurd (no_element line there)
  each_grants (cmnd ∷ cmnds) line there =
      elim (cons_cases (own_line cmnd) (map own_line cmnds) line there) as (λ _. Grants defined line i) [
        | inl same ↦ subst (λ (l : Line). Grants defined l i) same (refl, grant_answers defined i.host q w.start w.end cmnd i)
        | inr later ↦ each_grants cmnds line later
      ]

  own_allows : (cmnd : Cmnd) → Contains q.cmnds cmnd → Fits i.host q w.start w.end cmnd i → Decides (own_policy q w i.host) i Allow
  own_allows cmnd among fits =
      subst (λ (es : List Entry). DecidesBy defined es i Allow) (own_lines q.cmnds)
      (some_grants defined [] (map own_line q.cmnds) i (each_grants q.cmnds) (own_line cmnd) (contains_map own_line q.cmnds cmnd among)
      (yes_from_fits defined i.host q w.start w.end cmnd i fits))

  -- where the grant is needless, the base allows it too
  pub base_allows : (base : List Entry) (cmnd : Cmnd) → IsNeed base q w Needless → IsInvocation i → Contains q.hosts i.host
      → Contains q.cmnds cmnd → Fits i.host q w.start w.end cmnd i → Allows base i
  base_allows base cmnd needless form host among fits =
      needless_gives_nothing base q w i needless form (sym fits.user) host (sym fits.target) (inl (own_allows cmnd among fits))

pub needless_covered : (f : RosterFields Cmnd) (base : List Entry) (set : List Message) (i : Invocation) (c : Covers f set i) (w : Window)
    → IsFirstMoment f set c.request w.start → IsLastMoment f set c.request w.end → IsNeed base c.request w Needless → IsInvocation i → Allows base i
needless_covered f base set i c w first last needless form =
    base_allows c.request w i base c.cmnd needless form c.host c.of_request (record {
      begun = first.least i.at c.window;
      lasts = last.greatest i.at c.window;
      user = c.user;
      host_is = refl;
      target = c.target;
      matches_it = c.matches_it;
    })

-- ---- lines behind a base

module _ (f : RosterFields Cmnd) (base : List Entry) (set : List Message) (i : Invocation)
    (lines : List Line) (each : (line : Line) → Contains lines line → IsLine f set i.host line) where
  abbrev within : List Entry
  within = reverse (with_lines base lines)

  all_grant : (line : Line) → Contains lines line → Grants within line i
  all_grant line there = line_grants f within set i line (each line there)

  -- where no line speaks, the base decides
  as_base : (d : Decision) → ((line : Line) → Contains lines line → says within line.rule i ≡ None) → Decides base i d → Decides (with_lines base lines) i d
  as_base d quiet by =
      let P : List Entry → Type 0 = λ es. DecidesBy (reverse (base ++ es)) base i d in
      silent_lines within base lines i d quiet
      (subst P (entries_of_rules lines) (same_definitions base (map (λ (line : Line). line.rule) lines) i d by))

  -- a line that says yes allows
  pub by_a_line : (line : Line) → Contains lines line → says within line.rule i ≡ Some true → Allows (with_lines base lines) i
  by_a_line line there allows = inl (some_grants within base lines i all_grant line there allows)

  -- lines take nothing away
  pub still_allowed : Allows base i → Allows (with_lines base lines) i
  still_allowed allowed =
      elim (one_says_yes within i lines all_grant) as (λ _. Allows (with_lines base lines) i) [
        | inl found ↦ by_a_line found.0 found.1 found.2
        | inr quiet ↦ kept_by quiet allowed
      ]
    where
      kept_by : ((line : Line) → Contains lines line → says within line.rule i ≡ None) → Allows base i → Allows (with_lines base lines) i
      kept_by quiet (inl by) = inl (as_base Allow quiet by)
      kept_by quiet (inr by) = inr (as_base AllowNoPassword quiet by)

  -- what is allowed, the base allows, or a line does
  pub by_base_or_line : Allows (with_lines base lines) i
      → Allows base i ⊎ ((line : Line) × Contains lines line × (says within line.rule i ≡ Some true))
  by_base_or_line allowed =
      elim (one_says_yes within i lines all_grant)
      as (λ _. Allows base i ⊎ ((line : Line) × Contains lines line × (says within line.rule i ≡ Some true))) [
        | inl found ↦ inr found
        | inr quiet ↦ inl (of_base quiet allowed)
      ]
    where
      same : (d : Decision) → ((line : Line) → Contains lines line → says within line.rule i ≡ None) → Decides (with_lines base lines) i d → Decides base i d
      same d quiet by =
          let some = some_decision (reverse base) base i in
          let is : some.0 ≡ d = one_decision within (with_lines base lines) i some.0 d (as_base some.0 quiet some.1) by in
          subst (λ (e : Decision). Decides base i e) is some.1

      of_base : ((line : Line) → Contains lines line → says within line.rule i ≡ None) → Allows (with_lines base lines) i → Allows base i
      of_base quiet (inl by) = inl (same Allow quiet by)
      of_base quiet (inr by) = inr (same AllowNoPassword quiet by)

-- ---- without the lines of a needless grant

one_name : (a b : RequestName) → is_same_name a b ≡ true → a ≡ b
one_name a b same =
    let both = and_parts (bytes_eq a.by b.by) (nat_eq a.no b.no) same in
    ap₂ (λ (x : List ℕ) (n : ℕ). record { by = x; no = n }) ((bytes_eq-Decides a.by b.by).0 both.0) (eqb-true a.no b.no both.1)

module _ (f : RosterFields Cmnd) (base : List Entry) (set : List Message)
    (q : RequestFields) (w : Window) (i : Invocation) (lines : List Line) where
  abbrev others : List Line
  others = lines_without (name_of q) lines

  module _ (are : AreLines f set i.host lines) (first : IsFirstMoment f set q w.start)
      (last : IsLastMoment f set q w.end) (needless : IsNeed base q w Needless) (form : IsInvocation i) where
    others_are : (line : Line) → Contains others line → IsLine f set i.host line
    others_are line there = are.each line (was_there (λ l. not (is_same_name l.name (name_of q))) lines line there)

    fits_of : (defined : List Entry) (line : Line) (is : IsLine f set i.host line) → says defined line.rule i ≡ Some true
        → Fits i.host is.request is.first is.last is.cmnd i
    fits_of defined line is allows =
        fits_from_yes defined i.host is.request is.first is.last is.cmnd i (subst (λ (r : Rule). says defined r i ≡ Some true) is.rule_is allows)

    yes_of : (defined : List Entry) (line : Line) (is : IsLine f set i.host line) → Fits i.host is.request is.first is.last is.cmnd i
        → says defined line.rule i ≡ Some true
    yes_of defined line is fits =
        subst (λ (r : Rule). says defined r i ≡ Some true) (sym is.rule_is) (yes_from_fits defined i.host is.request is.first is.last is.cmnd i fits)

    -- what a line of the grant allows, the base does
    of_grant : (line : Line) (is : IsLine f set i.host line) → line.name ≡ name_of q → Fits i.host is.request is.first is.last is.cmnd i → Allows base i
    of_grant line is mine fits =
        let named : name_of is.request ≡ name_of q = sym is.name_is ∙ mine in
        let same : is.request ≡ q =
        first.inside.alone.alone is.request is.first_is.inside.alone.asked
        (ap (λ (n : RequestName). n.by) named, ap (λ (n : RequestName). n.no) named) in
        let begins = subst (λ (r : RequestFields). IsFirstMoment f set r is.first) same is.first_is in
        let ends = subst (λ (r : RequestFields). IsLastMoment f set r is.last) same is.last_is in
        base_allows q w i base is.cmnd needless form
        (subst (λ (r : RequestFields). Contains r.hosts i.host) same is.names_host)
        (subst (λ (r : RequestFields). Contains r.cmnds is.cmnd) same (Contains-from_get is.request.cmnds line.place is.cmnd is.cmnd_is)) (record {
          begun = omega (arith, first.least is.first begins.inside, fits.begun);
          lasts = omega (arith, last.greatest is.last ends.inside, fits.lasts);
          user = ap (λ (r : RequestFields). r.by) (sym same) ∙ fits.user;
          host_is = refl;
          target = ap (λ (r : RequestFields). r.runas) (sym same) ∙ fits.target;
          matches_it = fits.matches_it;
        })

    without_it : Allows (with_lines base lines) i → Allows (with_lines base others) i
    without_it allowed =
        elim (by_base_or_line f base set i lines are.each allowed) as (λ _. Allows (with_lines base others) i) [
          | inl by ↦ still_allowed f base set i others others_are by
          | inr found ↦
              let is = are.each found.0 found.1 in
              let fits = fits_of (reverse (with_lines base lines)) found.0 is found.2 in
              elim (cases_Bool (is_same_name found.0.name (name_of q))) as (λ _. Allows (with_lines base others) i) [
                | inl mine ↦ still_allowed f base set i others others_are (of_grant found.0 is (one_name found.0.name (name_of q) mine) fits)
                | inr other ↦
                    by_a_line f base set i others others_are found.0
                    (kept (λ l. not (is_same_name l.name (name_of q))) lines found.0 found.1 (ap not other))
                    (yes_of (reverse (with_lines base others)) found.0 is fits)
              ]
        ]

    with_it : Allows (with_lines base others) i → Allows (with_lines base lines) i
    with_it allowed =
        elim (by_base_or_line f base set i others others_are allowed) as (λ _. Allows (with_lines base lines) i) [
          | inl by ↦ still_allowed f base set i lines are.each by
          | inr found ↦
              let is = others_are found.0 found.1 in
              by_a_line f base set i lines are.each found.0 (was_there (λ l. not (is_same_name l.name (name_of q))) lines found.0 found.1)
              (yes_of (reverse (with_lines base lines)) found.0 is (fits_of (reverse (with_lines base others)) found.0 is found.2))
        ]

    pub file_without : Allows (with_lines base lines) i ↔ Allows (with_lines base others) i
    file_without = (without_it, with_it)
