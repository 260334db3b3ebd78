-- Each grant has a word beside each base.
use Rattle.std.proofs.Common.{◌≡◌, ℕ, ◌≤◌, true, List, [], ◌∷◌, ◌++◌, map, length, append_assoc}
use Rattle.std.proofs.Common.{append-nil, refl, sym, subst, inl, inr, lit≤, arith}
use Rattle.std.specs.List.{Contains}
use Rattle.std.proofs.lemmas.List.{length-map}
use Rattle.std.proofs.lemmas.List.Elements.{All-contains, Contains-append_right}
use Rattle.sudo_words.specs.Moment.{IsMoment}
use Rattle.sudo_words.specs.Word.{is_host_name}
use Rattle.sudo_policy.specs.declared.entry.Entry.{Entry}
use Rattle.sudo_policy.specs.Policy.{IsPolicy}
use Rattle.messages.specs.Fields.{IsRequest, RequestFields}
use Rattle.grants.specs.Bases.{FitsBase}
use Rattle.grants.specs.GrantRules.{grant_rule}
use Rattle.grants.specs.declared.outcome.Window.{Window}
use Rattle.grants.proofs.LawfulRules.{extended_policy}
use Rattle.grants.proofs.RuleLemmas.{span_grants}
use Rattle.sudo_beyond.proofs.Answered.{beyond_or_not, few_or_many}
use Rattle.sudo_words.proofs.Lists.{contains_head}
use Rattle.review.specs.declared.need.Need.{Need}
use Rattle.review.specs.declared.need.Need.TheVariants.{Needed, Needless, Unknown}
use Rattle.review.specs.Needs.{IsNeed, IsNeedOn, IsNeedOver, grant_scope, own_policy}
use Rattle.review.specs.private.Reporting.{over_both}
use Rattle.review.proofs.NeedLemmas.{need_of_more, no_hosts, one_need_on}

-- the rules of a grant are a policy
empty_fits : FitsBase []
empty_fits = record {
  policy = record { each = tt; placed = tt; count = lit≤ tt; light = lit≤ tt; short = lit≤ tt };
  text = lit≤ tt;
  count = lit≤ tt;
  light = lit≤ tt;
}

module _ (base : List Entry) (is_base : IsPolicy base) (q : RequestFields)
    (is_q : IsRequest q) (w : Window) (begins : IsMoment w.start) (ends : IsMoment w.end) where
  own_is_policy : (host : List ℕ) → is_host_name host ≡ true → IsPolicy (own_policy q w host)
  own_is_policy host named =
      let rules = map (grant_rule host q w.start w.end) q.cmnds in
      let count : length rules ≡ length q.cmnds = length-map q.cmnds (grant_rule host q w.start w.end) in
      extended_policy [] rules empty_fits (omega (arith, count, is_q.cmnds.0.1))
      (span_grants host q is_q w.start w.end begins ends named rules refl)

  need_on : (host : List ℕ) → is_host_name host ≡ true → (n : Need) × IsNeedOn base q w host n
  need_on host named =
      let scope = grant_scope q host in
      let own = own_policy q w host in
      let is_own = own_is_policy host named in
      elim (few_or_many scope own base is_own is_base) as (λ _. (n : Need) × IsNeedOn base q w host n) [
        | inl few ↦
            elim (beyond_or_not scope own base is_own is_base (record { user = is_q.by; host = named; runas = is_q.runas }) few)
            as (λ _. (n : Need) × IsNeedOn base q w host n) [
              | inl something ↦ (Needed, (few, something))
              | inr nothing ↦ (Needless, (few, nothing))
            ]
        | inr many ↦ (Unknown, many)
      ]

  over : (seen rest : List (List ℕ)) (m : Need) → IsNeedOver (IsNeedOn base q w) seen m
      → ((host : List ℕ) → Contains rest host → (n : Need) × IsNeedOn base q w host n) → (n : Need) × IsNeedOver (IsNeedOn base q w) (seen ++ rest) n
  over seen [] m is each = (m, subst (λ (hosts : List (List ℕ)). IsNeedOver (IsNeedOn base q w) hosts m) (sym (append-nil seen)) is)
  over seen (host ∷ rest) m is each =
      let here = each host (contains_head host rest) in
      let all = over (seen ++ host ∷ []) rest (over_both m here.0)
      (need_of_more (IsNeedOn base q w) (one_need_on base q w) seen host m here.0 is here.1)
      (λ other there. each other (Contains-append_right (host ∷ []) rest other there)) in
      (all.0, subst (λ (hosts : List (List ℕ)). IsNeedOver (IsNeedOn base q w) hosts all.0) (append_assoc seen (host ∷ []) rest) all.1)

  pub some_need : (n : Need) × IsNeed base q w n
  some_need =
      over [] q.hosts Needless (no_hosts (IsNeedOn base q w) (one_need_on base q w))
      (λ host among. need_on host (All-contains (λ (h : List ℕ). is_host_name h ≡ true) q.hosts host is_q.hosts.1 among))
