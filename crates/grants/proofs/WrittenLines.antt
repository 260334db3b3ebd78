-- The lines of a grant's rules, from the pieces that are written.
use Rattle.std.proofs.Common.{◌≡◌, ℕ, zero, suc, ◌+◌, ◌<◌, ◌≤◌, ◌&&◌, nat_le, Bool, true, false, cond, List, [], ◌∷◌, ◌++◌, length}
use Rattle.std.proofs.Common.{get_or, take, map, filter, Option, Some, None, append_assoc, inl, inr, refl, sym, ap, ◌∙◌, subst, arith}
use Rattle.std.specs.Prelude.{codes}
use Rattle.std.specs.List.{AllByRecursion}
use Rattle.std.proofs.lemmas.Bool.{cases_Bool, cond_both, leb-false, leb-true, true≢false}
use Rattle.std.proofs.lemmas.List.{append-nil}
use Rattle.sudo_words.specs.Command.{cmnd_text}
use Rattle.sudo_words.specs.Moment.{stamp}
use Rattle.sudo_words.specs.declared.cmnd.Cmnd.{Cmnd}
use Rattle.sudo_policy.specs.declared.entry.Rule.{Rule}
use Rattle.sudo_policy.specs.declared.entry.Entry.TheVariants as entries
use Rattle.sudo_policy.specs.Printing.{line_text}
use Rattle.messages.specs.Fields.{RequestFields, IsRequest}
use Rattle.messages.specs.Names.{name_of}
use Rattle.messages.specs.declared.message.Message.{Message}
use Rattle.roster.specs.Fields.{RosterFields}
use Rattle.grants.specs.GrantLines.{AreAdded, AreWritten, rules_left, stays}
use Rattle.grants.specs.GrantRules.{IsGrantRule, grant_rule, rules_for}
use Rattle.grants.specs.Statuses.{IsStatus}
use Rattle.grants.specs.Summaries.{Kept, StandsFor}
use Rattle.grants.specs.private.Given.{EndsInTime}
use Rattle.grants.specs.private.Lines.{is_left, lines_text, may_have, names, when, who}
use Rattle.grants.specs.declared.outcome.Status.{Status}
use Rattle.grants.specs.declared.outcome.Status.TheVariants.{Granted}
use Rattle.grants.specs.declared.outcome.Window.{Window}
use Rattle.grants.proofs.RuleLemmas.{ends_in_time, request_grants}

-- ---- one line

regroup : (old by s1 host s2 runas s3 nb eq first s4 na last cmnd nl : List ℕ)
    → (((old ++ ((((by ++ s1) ++ host) ++ s2) ++ runas)) ++ (((((s3 ++ (nb ++ eq)) ++ first) ++ (s4 ++ (na ++ eq))) ++ last) ++ s4)) ++ cmnd) ++ nl
    ≡ old ++ (((((((by ++ []) ++ s1) ++ (host ++ [])) ++ s2) ++ (runas ++ [])) ++ s3)
    ++ ((((((nb ++ eq) ++ first) ++ s4) ++ (((na ++ eq) ++ last) ++ s4)) ++ []) ++ cmnd) ++ nl)
regroup old by s1 host s2 runas s3 nb eq first s4 na last cmnd nl = simp (append-nil, append_assoc)

-- what is written for a command is the line of its rule
pub line_is : (old host : List ℕ) (q : RequestFields) (first last : ℕ) (cmnd : Cmnd)
    → (((old ++ who host q) ++ when first last) ++ cmnd_text cmnd) ++ codes "\n" ≡ old ++ line_text (entries.Rule (grant_rule host q first last cmnd))
line_is old host q first last cmnd =
    regroup old q.by (codes " ") host (codes " = (") q.runas (codes ") ") (codes "NOTBEFORE")
    (codes "=") (stamp first) (codes " ") (codes "NOTAFTER") (stamp last) (cmnd_text cmnd) (codes "\n")

-- ---- the lines of all commands

lines_suc : (rule : Cmnd → Rule) (cmnds : List Cmnd) (i : ℕ) (d : Cmnd) → i < length cmnds
    → lines_text (map rule (take (suc i) cmnds)) ≡ lines_text (map rule (take i cmnds)) ++ line_text (entries.Rule (rule (get_or cmnds i d)))
lines_suc rule [] i d h = absurd (omega arith)
lines_suc rule (c ∷ cmnds) zero d h = append-nil (line_text (entries.Rule (rule c)))
lines_suc rule (c ∷ cmnds) (suc i) d h =
    let line = line_text (entries.Rule (rule c)) in
    ap (λ (t : List ℕ). line ++ t) (lines_suc rule cmnds i d (omega arith))
    ∙ sym (append_assoc line (lines_text (map rule (take i cmnds))) (line_text (entries.Rule (rule (get_or cmnds i d)))))

-- one more line after those so far
pub lines_more : (rule : Cmnd → Rule) (cmnds : List Cmnd) (i : ℕ) (d : Cmnd) (old : List ℕ) → i < length cmnds
    → (old ++ lines_text (map rule (take i cmnds))) ++ line_text (entries.Rule (rule (get_or cmnds i d))) ≡ old ++ lines_text (map rule (take (i + 1) cmnds))
lines_more rule cmnds i d old h =
    let one : i + 1 ≡ suc i = omega arith in
    rw (one, lines_suc rule cmnds i d h) (append_assoc old (lines_text (map rule (take i cmnds))) (line_text (entries.Rule (rule (get_or cmnds i d)))))

-- ---- those that are left: all of a request, or none

module _ (host : List ℕ) (q : RequestFields) (after : Option ℕ) where
  module _ (w : Window) where
    abbrev pub rule_of : Cmnd → Rule
    rule_of = grant_rule host q w.start w.end

    stays_is : (o : Option ℕ) (cmnd : Cmnd) → stays o (rule_of cmnd) ≡ is_left o w.end
    stays_is None cmnd = refl
    stays_is (Some moment) cmnd = refl

    all_stay : is_left after w.end ≡ true → (cmnds : List Cmnd) → filter (stays after) (map rule_of cmnds) ≡ map rule_of cmnds
    all_stay left [] = refl
    all_stay left (c ∷ cmnds) =
        let stay : stays after (rule_of c) ≡ true = stays_is after c ∙ left in
        rw (stay, all_stay left cmnds)

    none_stays : is_left after w.end ≡ false → (cmnds : List Cmnd) → filter (stays after) (map rule_of cmnds) ≡ []
    none_stays over [] = refl
    none_stays over (c ∷ cmnds) =
        let gone : stays after (rule_of c) ≡ false = stays_is after c ∙ over in
        rw gone (none_stays over cmnds)

    pub all_left : names q host ≡ true → is_left after w.end ≡ true → rules_left after host q (Granted w) ≡ map rule_of q.cmnds
    all_left named left =
        ap (λ (t : Bool). filter (stays after) (cond t (map rule_of q.cmnds) [])) named ∙ all_stay left q.cmnds

    pub none_left : names q host ≡ true → is_left after w.end ≡ false → rules_left after host q (Granted w) ≡ []
    none_left named over =
        ap (λ (t : Bool). filter (stays after) (cond t (map rule_of q.cmnds) [])) named ∙ none_stays over q.cmnds

  -- ---- a request that can have none

  sooner : (o : Option ℕ) (end until : ℕ) → end ≤ until → is_left o until ≡ false → is_left o end ≡ false
  sooner None end until le over = over
  sooner (Some moment) end until le over =
      elim (cases_Bool (nat_le moment end)) as (λ _. nat_le moment end ≡ false) [
        | inl e ↦ absurd (omega (arith, leb-true moment end e, leb-false moment until over, le))
        | inr e ↦ e
      ]

  unnamed : names q host ≡ false → (w : Window) → rules_left after host q (Granted w) ≡ []
  unnamed other w =
      ap (λ (t : Bool). filter (stays after) (cond t (map (rule_of w) q.cmnds) [])) other

  -- it ends before the moment, or does not name the host
  none_granted : (w : Window) → w.end ≤ q.until → may_have after host q ≡ false → rules_left after host q (Granted w) ≡ []
  none_granted w ends gone =
      elim (cases_Bool (names q host)) as (λ _. rules_left after host q (Granted w) ≡ []) [
        | inr other ↦ unnamed other w
        | inl named ↦
            elim (cases_Bool (is_left after q.until)) as (λ _. rules_left after host q (Granted w) ≡ []) [
              | inr over ↦ none_left w named (sooner after w.end q.until ends over)
              | inl late ↦ absurd (true≢false (sym (ap (λ (t : Bool). t && names q host) late ∙ named) ∙ gone))
            ]
      ]

  pub none_of : (status : Status) → EndsInTime q status → may_have after host q ≡ false → rules_left after host q status ≡ []
  none_of (Granted w) ends gone = none_granted w ends.1 gone
  none_of _ ends gone = refl

  -- ---- they are rules of grants

  given_grants : IsRequest q → (status : Status) → EndsInTime q status → AllByRecursion IsGrantRule (rules_for host q status)
  given_grants is (Granted w) ends =
      cond_both (names q host) (map (rule_of w) q.cmnds) [] (AllByRecursion IsGrantRule)
      (λ named. request_grants host q is w.start w.end ends.0 ends.1 named (map (rule_of w) q.cmnds) refl)
      (λ _. tt)
  given_grants is _ ends = tt

  kept : (p : Rule → Bool) (rules : List Rule) → AllByRecursion IsGrantRule rules → AllByRecursion IsGrantRule (filter p rules)
  kept p [] each = tt
  kept p (r ∷ rules) each =
      let rest = kept p rules each.1 in
      cond_both (p r) (r ∷ filter p rules) (filter p rules) (AllByRecursion IsGrantRule) (λ _. (each.0, rest)) (λ _. rest)

  pub left_grants : IsRequest q → (status : Status) → EndsInTime q status → AllByRecursion IsGrantRule (rules_left after host q status)
  left_grants is status ends = kept (stays after) (rules_for host q status) (given_grants is status ends)

-- ---- what is added

pub none_added : (text : List ℕ) → AreAdded [] text text 0
none_added text = record { text_is = sym (append-nil text); count_is = refl }

module _ (f : RosterFields Cmnd) (set : List Message) (k : Kept) (stands : StandsFor set k) (is : IsRequest k.request)
    (host : List ℕ) (after : Option ℕ) (status : Status) (comes : IsStatus f set (name_of k.request) status) where
  pub written : (old new : List ℕ) (count : ℕ) → AreAdded (rules_left after host k.request status) old new count
      → AreWritten f set k.request host after old new count
  written old new count added = record {
    status = status;
    status_is = comes;
    grants = left_grants host k.request after is status (ends_in_time f set k stands host status comes);
    added = added;
  }

  pub none_written : may_have after host k.request ≡ false → (text : List ℕ) → AreWritten f set k.request host after text text 0
  none_written gone text =
      let none = none_of host k.request after status (ends_in_time f set k stands host status comes) gone in
      written text text 0 (subst (λ (rules : List Rule). AreAdded rules text text 0) (sym none) (none_added text))
