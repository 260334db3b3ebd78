-- The rules that a request gives a host are those of each set that its summary stands for.
use Rattle.std.proofs.Common.{◌≡◌, ℕ, Bool, true, false, cond, List, Some, [], ◌∷◌, map, arith, refl, sym, ap, ◌∙◌, subst}
use Rattle.std.specs.Prelude.{Contains, ◌≤◌}
use Rattle.std.specs.List.{AllByRecursion, list_any}
use Rattle.std.specs.Str.{bytes_eq}
use Rattle.std.proofs.lemmas.Slice.Eq.{bytes_eq-Decides}
use Rattle.std.proofs.lemmas.List.Elements.{All-contains, recursion_from_All}
use Rattle.sudo_words.specs.Command.{IsLawful}
use Rattle.sudo_words.specs.Moment.{IsMoment}
use Rattle.sudo_words.specs.Word.{is_host_name}
use Rattle.sudo_words.specs.declared.cmnd.Cmnd.{Cmnd}
use Rattle.sudo_policy.specs.declared.entry.Rule.{Rule}
use Rattle.messages.specs.Fields.{RequestFields, IsRequest}
use Rattle.messages.specs.Names.{IsNamed, name_of}
use Rattle.messages.specs.declared.message.Message.{Message}
use Rattle.roster.specs.Fields.{RosterFields}
use Rattle.grants.specs.private.Given.{EndsInTime}
use Rattle.grants.specs.GrantRules.{AreRules, IsGrantRule, grant_rule, grant_tags, rules_for}
use Rattle.grants.specs.Statuses.{InWindow, IsFirstMoment, IsLastMoment, IsStatus}
use Rattle.grants.specs.Summaries.{Kept, StandsFor}
use Rattle.grants.specs.Verdicts.{StandsAlone}
use Rattle.grants.specs.declared.outcome.Status.{Status}
use Rattle.grants.specs.declared.outcome.Status.TheVariants.{Granted}
use Rattle.grants.proofs.Members.{member, passes}
use Rattle.grants.proofs.StatusLaws.{one_status}

module _ (f : RosterFields Cmnd) (set : List Message) (k : Kept) (stands : StandsFor set k) (host : List ℕ) where
  -- a request of the name that stands alone is the one kept
  own : (q : RequestFields) → IsNamed q (name_of k.request) → StandsAlone set q → k.request ≡ q
  own q named alone = alone.alone k.request stands.asked (sym named.0, sym named.1)

  granted_is : (first last : ℕ) → IsFirstMoment f set k.request first → IsLastMoment f set k.request last
      → IsStatus f set (name_of k.request) (Granted (record { start = first; end = last }))
  granted_is first last a b = record {
    request = k.request;
    named = (refl, refl);
    alone = a.inside.alone;
    admissible = a.inside.admissible;
    is = (a, b);
  }

  granted : (status : Status) → IsStatus f set (name_of k.request) status → (first last : ℕ)
      → Contains k.request.hosts host → IsFirstMoment f set k.request first → IsLastMoment f set k.request last
      → rules_for host k.request status ≡ map (grant_rule host k.request first last) k.request.cmnds
  granted status is first last named a b =
      let lines = map (grant_rule host k.request first last) k.request.cmnds in
      let same = one_status f set (name_of k.request) status (Granted (record { start = first; end = last })) is (granted_is first last a b) in
      ap (rules_for host k.request) same
      ∙ ap (λ (t : Bool). cond t lines []) (passes (λ v. bytes_eq v host) k.request.hosts host named ((bytes_eq-Decides host host).1 refl))

  unnamed : (lines : List Rule) (t : Bool) → list_any (λ h. bytes_eq h host) k.request.hosts ≡ t → ¬ Contains k.request.hosts host → cond t lines [] ≡ []
  unnamed lines true e other = absurd (other (member k.request.hosts host e))
  unnamed lines false e other = refl

  other_host : (status : Status) → ¬ Contains k.request.hosts host → rules_for host k.request status ≡ []
  other_host (Granted w) other =
      unnamed (map (grant_rule host k.request w.start w.end) k.request.cmnds) (list_any (λ h. bytes_eq h host) k.request.hosts) refl other
  other_host _ other = refl

  never : (status : Status) → IsStatus f set (name_of k.request) status
      → ((moment : ℕ) → ¬ InWindow f set k.request moment) → rules_for host k.request status ≡ []
  never (Granted w) is none =
      absurd (none w.start (subst (λ (q : RequestFields). InWindow f set q w.start) (sym (own is.request is.named is.alone)) is.is.0.inside))
  never _ is none = refl

  pub ends_in_time : (status : Status) → IsStatus f set (name_of k.request) status → EndsInTime k.request status
  ends_in_time (Granted w) is =
      subst (λ (q : RequestFields). (w.start ≤ q.until) × (w.end ≤ q.until)) (sym (own is.request is.named is.alone))
      (is.is.0.inside.until, is.is.1.inside.until)
  ends_in_time _ is = tt

  pub are_rules_for : (status : Status) (rules : List Rule) → IsStatus f set (name_of k.request) status
      → rules ≡ rules_for host k.request status → AreRules f set k.request host rules
  are_rules_for status rules is e = record {
    granted = λ first last named a b. e ∙ granted status is first last named a b;
    other_host = λ other. e ∙ other_host status other;
    never = λ none. e ∙ never status is none;
  }

-- ---- they may stand behind a base

module _ (host : List ℕ) (q : RequestFields) (is : IsRequest q) (first last : ℕ) where
  each_grants : IsMoment first → IsMoment last → is_host_name host ≡ true → (cs : List Cmnd)
      → AllByRecursion IsLawful cs → AllByRecursion IsGrantRule (map (grant_rule host q first last) cs)
  each_grants starts ends named [] lawful = tt
  each_grants starts ends named (c ∷ cs) lawful = (
    record {
      user = q.by;
      host = host;
      target = q.runas;
      not_before = Some first;
      not_after = Some last;
      tags = grant_tags;
      cmnd = c;
      user_is = is.by;
      host_is = named;
      target_is = is.runas;
      not_before_is = starts;
      not_after_is = ends;
      lawful = lawful.0;
      rule_is = refl;
    },
    each_grants starts ends named cs lawful.1,
  )

  pub span_grants : IsMoment first → IsMoment last → is_host_name host ≡ true → (rules : List Rule)
      → rules ≡ map (grant_rule host q first last) q.cmnds → AllByRecursion IsGrantRule rules
  span_grants starts ends named rules e =
      let P : List Rule → Type 0 = λ x. AllByRecursion IsGrantRule x in
      subst P (sym e) (each_grants starts ends named q.cmnds (recursion_from_All IsLawful q.cmnds is.cmnds.1))

  pub request_grants : first ≤ q.until → last ≤ q.until → list_any (λ h. bytes_eq h host) q.hosts ≡ true
      → (rules : List Rule) → rules ≡ map (grant_rule host q first last) q.cmnds → AllByRecursion IsGrantRule rules
  request_grants first_in last_in among rules e =
      let named : is_host_name host ≡ true = All-contains (λ (h : List ℕ). is_host_name h ≡ true) q.hosts host is.hosts.1 (member q.hosts host among) in
      span_grants (omega (arith, first_in, is.until)) (omega (arith, last_in, is.until)) named rules e
