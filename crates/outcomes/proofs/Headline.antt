-- What a host's file decides: it allows what a grant covers, and decides all else as the base does.
use Rattle.std.proofs.Common.{◌≡◌, ℕ, ◌≤◌, ◌⊎◌, Bool, true, Option, Some, None, List, [], ◌∷◌, ◌++◌}
use Rattle.std.proofs.Common.{map, reverse, refl, sym, ap, ◌∙◌, subst, inl, inr, append_assoc, max, arith}
use Rattle.std.specs.List.{Contains}
use Rattle.std.proofs.lemmas.Bool.{le-leb}
use Rattle.std.proofs.lemmas.List.{append-nil}
use Rattle.messages.specs.declared.message.Message.{Message}
use Rattle.sudo_policy.specs.declared.entry.Rule.{Rule}
use Rattle.sudo_policy.specs.declared.entry.Entry.{Entry}
use Rattle.sudo_policy.specs.declared.entry.Entry.TheVariants as entries
use Rattle.sudo_policy.specs.declared.tags.Tags.{Tags}
use Rattle.sudo_decide.specs.declared.decision.Decision.{Decision}
use Rattle.sudo_decide.specs.declared.decision.Decision.TheVariants.{Allow}
use Rattle.sudo_decide.specs.declared.invocation.Invocation.{Invocation}
use Rattle.sudo_decide.specs.Decision.{says, outcome, Decides, DecidesBy}
use Rattle.sudo_decide.proofs.DecisionLemmas.{decides_silent_last, decides_rule_last, same_definitions}
use Rattle.sudo_words.specs.declared.cmnd.Cmnd.{Cmnd}
use Rattle.messages.specs.Names.{name_of}
use Rattle.roster.specs.Fields.{RosterFields}
use Rattle.grants.specs.GrantLines.{stays}
use Rattle.grants.specs.GrantRules.{grant_rule, grant_tags}
use Rattle.grants.specs.Statuses.{IsLastMoment}
use Rattle.outcomes.specs.Covers.{Covers}
use Rattle.outcomes.specs.HostFile.{Line, IsLine, AreLines, lines_after, with_lines}
use Rattle.outcomes.proofs.Filters.{kept, was_there}
use Rattle.outcomes.proofs.Membership.{no_member, Contains-head, Contains-behind, Contains-cases, Contains-from_get, get_from_Contains}
use Rattle.outcomes.proofs.Windows.{between, first_of, not_endless}
use Rattle.outcomes.proofs.GrantedRules.{grant_answers, fits_from_yes, yes_from_fits}

-- ---- lines behind a policy, where these entries define the aliases

pub entries_of_rules : (lines : List Line) → map entries.Rule (map (λ (line : Line). line.rule) lines) ≡ map (λ (line : Line). entries.Rule line.rule) lines
entries_of_rules [] = refl
entries_of_rules (line ∷ lines) = ap (λ (es : List Entry). entries.Rule line.rule ∷ es) (entries_of_rules lines)

abbrev entry_of : Line → Entry
entry_of line = entries.Rule line.rule

pub regrouped : (defined es : List Entry) (line : Line) (lines : List Line) (i : Invocation) (d : Decision)
    → DecidesBy defined ((es ++ entry_of line ∷ []) ++ map entry_of lines) i d → DecidesBy defined (es ++ entry_of line ∷ map entry_of lines) i d
regrouped defined es line lines i d h = rw append_assoc at h

pub silent_lines : (defined es : List Entry) (lines : List Line) (i : Invocation) (d : Decision)
    → ((line : Line) → Contains lines line → says defined line.rule i ≡ None) → DecidesBy defined es i d → DecidesBy defined (es ++ map entry_of lines) i d
silent_lines defined es [] i d quiet by = let P : List Entry → Type 0 = λ x. DecidesBy defined x i d in subst P (sym (append-nil es)) by
silent_lines defined es (line ∷ lines) i d quiet by =
    regrouped defined es line lines i d (silent_lines defined (es ++ entry_of line ∷ []) lines i d (λ l m. quiet l (Contains-behind line lines l m))
    (decides_silent_last defined es (entry_of line) i d (quiet line (Contains-head line lines)) by))

-- a line says yes, and asks for a password, or says nothing
abbrev pub Grants : List Entry → Line → Invocation → Type 0
Grants defined line i = (line.rule.tags ≡ grant_tags) × ((says defined line.rule i ≡ Some true) ⊎ (says defined line.rule i ≡ None))

pub allowed : (defined es : List Entry) (line : Line) (i : Invocation) → line.rule.tags ≡ grant_tags
    → says defined line.rule i ≡ Some true → DecidesBy defined (es ++ entry_of line ∷ []) i Allow
allowed defined es line i asks says_yes =
    let decided : outcome line.rule true ≡ Allow = ap (λ (tags : Tags). outcome (record line.rule { tags = tags }) true) asks in
    let P : Decision → Type 0 = λ d. DecidesBy defined (es ++ entry_of line ∷ []) i d in
    subst P decided (decides_rule_last defined es line.rule i true says_yes)

still_allowed : (defined es : List Entry) (line : Line) (i : Invocation) → Grants defined line i
    → DecidesBy defined es i Allow → DecidesBy defined (es ++ entry_of line ∷ []) i Allow
still_allowed defined es line i (asks, inl says_yes) by = allowed defined es line i asks says_yes
still_allowed defined es line i (asks, inr quiet) by = decides_silent_last defined es (entry_of line) i Allow quiet by

granted_lines : (defined es : List Entry) (lines : List Line) (i : Invocation) → ((line : Line) → Contains lines line → Grants defined line i)
    → DecidesBy defined es i Allow → DecidesBy defined (es ++ map entry_of lines) i Allow
granted_lines defined es [] i each by = let P : List Entry → Type 0 = λ x. DecidesBy defined x i Allow in subst P (sym (append-nil es)) by
granted_lines defined es (line ∷ lines) i each by =
    regrouped defined es line lines i Allow (granted_lines defined (es ++ entry_of line ∷ []) lines i
    (λ l m. each l (Contains-behind line lines l m)) (still_allowed defined es line i (each line (Contains-head line lines)) by))

pub some_grants : (defined es : List Entry) (lines : List Line) (i : Invocation) → ((line : Line) → Contains lines line → Grants defined line i)
    → (line : Line) → Contains lines line → says defined line.rule i ≡ Some true → DecidesBy defined (es ++ map entry_of lines) i Allow
some_grants defined es [] i each line m says_yes = absurd (no_member line m)
some_grants defined es (first ∷ lines) i each line m says_yes =
    let later : (l : Line) → Contains lines l → Grants defined l i = λ l n. each l (Contains-behind first lines l n) in
    regrouped defined es first lines i Allow
    (elim (Contains-cases first lines line m) as (λ _. DecidesBy defined ((es ++ entry_of first ∷ []) ++ map entry_of lines) i Allow) [
      | inl same ↦
          let P : Line → Type 0 = λ l. says defined l.rule i ≡ Some true in
          granted_lines defined (es ++ entry_of first ∷ []) lines i later
          (allowed defined es first i (each first (Contains-head first lines)).0 (subst P (sym same) says_yes))
      | inr behind ↦ some_grants defined (es ++ entry_of first ∷ []) lines i later line behind says_yes
    ])

-- ---- the lines of a set

-- a line of them says yes, or none does
pub one_says_yes : (defined : List Entry) (i : Invocation) (lines : List Line) → ((line : Line) → Contains lines line → Grants defined line i)
    → ((line : Line) × Contains lines line × (says defined line.rule i ≡ Some true)) ⊎ ((line : Line) → Contains lines line → says defined line.rule i ≡ None)
one_says_yes defined i [] each = inr (λ line m. absurd (no_member line m))
one_says_yes defined i (first ∷ lines) each =
    let Found : Type 0 = ((line : Line) × Contains (first ∷ lines) line × (says defined line.rule i ≡ Some true))
    ⊎ ((line : Line) → Contains (first ∷ lines) line → says defined line.rule i ≡ None) in
    elim (each first (Contains-head first lines)).1 as (λ _. Found) [
      | inl says_yes ↦ inl (first, Contains-head first lines, says_yes)
      | inr quiet ↦ elim (one_says_yes defined i lines (λ l m. each l (Contains-behind first lines l m))) as (λ _. Found) [
        | inl found ↦ inl (found.0, Contains-behind first lines found.0 found.1, found.2)
        | inr all ↦ inr (λ line m. elim (Contains-cases first lines line m) as (λ _. says defined line.rule i ≡ None) [
          | inl same ↦ subst (λ (l : Line). says defined l.rule i ≡ None) same quiet
          | inr later ↦ all line later
        ])
      ]
    ]

module _ (f : RosterFields Cmnd) (defined : List Entry) (messages : List Message) (i : Invocation) where
  pub line_grants : (line : Line) → IsLine f messages i.host line → Grants defined line i
  line_grants line l =
      let P : Rule → Type 0 = λ r. (r.tags ≡ grant_tags) × ((says defined r i ≡ Some true) ⊎ (says defined r i ≡ None)) in
      subst P (sym l.rule_is) (refl, grant_answers defined i.host l.request l.first l.last l.cmnd i)

  pub covers_from_yes : (line : Line) → IsLine f messages i.host line → says defined line.rule i ≡ Some true → Covers f messages i
  covers_from_yes line l says_yes =
      let P : Rule → Type 0 = λ r. says defined r i ≡ Some true in
      let fits = fits_from_yes defined i.host l.request l.first l.last l.cmnd i (subst P l.rule_is says_yes) in
      record {
        request = l.request;
        cmnd = l.cmnd;
        window = between f messages l.request l.first i.at l.last l.first_is.inside l.last_is.inside fits.begun fits.lasts;
        user = fits.user;
        host = l.names_host;
        target = fits.target;
        of_request = Contains-from_get l.request.cmnds line.place l.cmnd l.cmnd_is;
        matches_it = fits.matches_it;
      }

  -- what covers an invocation gives its host a line that says yes
  record SaysYes : Type 0 where
    line : Line
    is_line : IsLine f messages i.host line
    says_yes : says defined line.rule i ≡ Some true

  yes_from_covers : (c : Covers f messages i) → (last : ℕ) → IsLastMoment f messages c.request last → SaysYes
  yes_from_covers c last last_is =
      let place = get_from_Contains c.request.cmnds c.cmnd c.of_request in
      let w = c.window in
      let first : ℕ = max c.request.from w.complete in
      record {
        line = record { name = name_of c.request; place = place.0; rule = grant_rule i.host c.request first last c.cmnd };
        is_line = record {
          request = c.request;
          first = first;
          last = last;
          cmnd = c.cmnd;
          names_host = c.host;
          first_is = first_of f messages c.request i.at w;
          last_is = last_is;
          cmnd_is = place.1;
          name_is = refl;
          rule_is = refl;
        };
        says_yes = yes_from_fits defined i.host c.request first last c.cmnd i (record {
          begun = omega (arith, w.from, w.behind);
          lasts = last_is.greatest i.at w;
          user = c.user;
          host_is = refl;
          target = c.target;
          matches_it = c.matches_it;
        });
      }

-- ---- the file

-- Lines of the host behind the base, among them each that says yes.
pub record SpeakFor (f : RosterFields Cmnd) (base : List Entry) (messages : List Message) (i : Invocation) (lines : List Line) : Type 0 where
  pub each : (line : Line) → Contains lines line → IsLine f messages i.host line
  pub yes : (line : Line) → IsLine f messages i.host line → says (reverse (with_lines base lines)) line.rule i ≡ Some true → Contains lines line

module _ (f : RosterFields Cmnd) (base : List Entry) (messages : List Message)
    (i : Invocation) (lines : List Line) (speak : SpeakFor f base messages i lines) where
  -- the lines define nothing
  abbrev defined : List Entry
  defined = reverse (with_lines base lines)

  each_grants : (line : Line) → Contains lines line → Grants defined line i
  each_grants line m = line_grants f defined messages i line (speak.each line m)

  not_all_quiet : Covers f messages i → ((line : Line) → Contains lines line → says defined line.rule i ≡ None) → ⊥
  not_all_quiet c quiet =
      not_endless f messages c.request i.at c.window (λ last last_is.
      let found = yes_from_covers f defined messages i c last last_is in
      let wrong : ◌≡◌ {A = Option Bool} (Some true) None = sym found.says_yes ∙ quiet found.line (speak.yes found.line found.is_line found.says_yes) in
      absurd cc)

  pub covered_allowed : Covers f messages i → Decides (with_lines base lines) i Allow
  covered_allowed c =
      elim (one_says_yes defined i lines each_grants) as (λ _. Decides (with_lines base lines) i Allow) [
        | inl found ↦ some_grants defined base lines i each_grants found.0 found.1 found.2
        | inr quiet ↦ absurd (not_all_quiet c quiet)
      ]

  quiet_line : (Covers f messages i → ⊥) → (line : Line) → Contains lines line → says defined line.rule i ≡ None
  quiet_line bare line m =
      elim (each_grants line m).1 as (λ _. says defined line.rule i ≡ None) [
        | inl says_yes ↦ absurd (bare (covers_from_yes f defined messages i line (speak.each line m) says_yes))
        | inr quiet ↦ quiet
      ]

  base_decides : (d : Decision) → Decides base i d → DecidesBy defined base i d
  base_decides d by =
      let P : List Entry → Type 0 = λ es. DecidesBy (reverse (base ++ es)) base i d in
      subst P (entries_of_rules lines) (same_definitions base (map (λ (line : Line). line.rule) lines) i d by)

  pub bare_as_base : (Covers f messages i → ⊥) → (d : Decision) → Decides base i d → Decides (with_lines base lines) i d
  bare_as_base bare d by = silent_lines defined base lines i d (quiet_line bare) (base_decides d by)

-- ---- all lines of the host, and those that end at a moment or later

module _ (f : RosterFields Cmnd) (base : List Entry) (messages : List Message)
    (i : Invocation) (lines : List Line) (are : AreLines f messages i.host lines) where
  pub all_speak : SpeakFor f base messages i lines
  all_speak = record { each = are.each; yes = λ line l says_yes. are.all line l }

  -- a line that says yes at the moment or later has not ended before it
  not_ended : (defined : List Entry) (moment : ℕ) (line : Line) → moment ≤ i.at → IsLine f messages i.host line
      → says defined line.rule i ≡ Some true → stays (Some moment) line.rule ≡ true
  not_ended defined moment line later l says_yes =
      let P : Rule → Type 0 = λ r. says defined r i ≡ Some true in
      let fits = fits_from_yes defined i.host l.request l.first l.last l.cmnd i (subst P l.rule_is says_yes) in
      let Lasts : Rule → Type 0 = λ r. stays (Some moment) r ≡ true in
      subst Lasts (sym l.rule_is) (le-leb moment l.last (omega (arith, later, fits.lasts)))

  pub left_speak : (moment : ℕ) → moment ≤ i.at → SpeakFor f base messages i (lines_after moment lines)
  left_speak moment later =
      let p : Line → Bool = λ line. stays (Some moment) line.rule in
      record {
        each = λ line m. are.each line (was_there p lines line m);
        yes = λ line l says_yes.
            kept p lines line (are.all line l) (not_ended (reverse (with_lines base (lines_after moment lines))) moment line later l says_yes);
      }
