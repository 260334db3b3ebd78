-- When a request was complete, by the verdicts on it and by the whole set.
use Rattle.std.proofs.Common.{◌≡◌, ◌↔◌, ℕ, Bool, true, false, cond, List, [], ◌∷◌, map, Option, Some, None, MatchOption, sym, ap, ◌∙◌, subst, inl, inr}
use Rattle.std.specs.List.{Contains}
use Rattle.std.specs.Prelude.{filter}
use Rattle.std.proofs.lemmas.Bool.{and_from}
use Rattle.std.proofs.lemmas.Bool.Decides.{Decides-eqb}
use Rattle.std.proofs.lemmas.Slice.Eq.{bytes_eq-Decides}
use Rattle.sudo_words.specs.declared.cmnd.Cmnd.{Cmnd}
use Rattle.messages.specs.Fields.{RequestFields, VerdictFields}
use Rattle.messages.specs.Names.{IsAbout}
use Rattle.messages.specs.declared.message.Message.{Message}
use Rattle.messages.specs.declared.message.Message.TheVariants.{Request, Verdict}
use Rattle.messages.specs.declared.kind.VerdictKind.{VerdictKind}
use Rattle.roster.specs.Fields.{RosterFields}
use Rattle.grants.specs.Statuses.{NeverComplete}
use Rattle.grants.specs.Verdicts.{IsComplete, IsGiven}
use Rattle.grants.proofs.MemberCases.{nothing_there, cases_behind}
use Rattle.grants.proofs.Members.{Contains-head, Contains-behind}
use Rattle.grants.proofs.StatusLaws.{complete}
use Rattle.findings.specs.Judging.{IsCompletionOf, is_verdict_on, messages_on}

-- ---- the members of a filter, and of a list of verdicts

in_filter : {X : Type 0} (p : X → Bool) (xs : List X) (x : X) → Contains xs x → p x ≡ true → Contains (filter p xs) x
in_filter p [] x m e = absurd (nothing_there x m)
in_filter {X} p (y ∷ ys) x m e =
    elim (cases_behind y ys x m) as (λ _. Contains (cond (p y) (y ∷ filter p ys) (filter p ys)) x) [
      | inl same ↦ subst (λ (b : Bool). Contains (cond b (y ∷ filter p ys) (filter p ys)) x) (sym (ap p same ∙ e))
          (subst (λ (z : X). Contains (y ∷ filter p ys) z) same (Contains-head y (filter p ys)))
      | inr later ↦ behind (p y) (in_filter p ys x later e)
    ]
  where
    behind : (b : Bool) → Contains (filter p ys) x → Contains (cond b (y ∷ filter p ys) (filter p ys)) x
    behind true there = Contains-behind y (filter p ys) x there
    behind false there = there

out_of_filter : {X : Type 0} (p : X → Bool) (xs : List X) (x : X) → Contains (filter p xs) x → Contains xs x
out_of_filter p [] x m = m
out_of_filter {X} p (y ∷ ys) x m = from (p y) (out_of_filter p ys x) m
  where
    from : (b : Bool) → (Contains (filter p ys) x → Contains ys x) → Contains (cond b (y ∷ filter p ys) (filter p ys)) x → Contains (y ∷ ys) x
    from true rest there = elim (cases_behind y (filter p ys) x there) as (λ _. Contains (y ∷ ys) x) [
      | inl same ↦ subst (λ (z : X). Contains (y ∷ ys) z) same (Contains-head y ys)
      | inr later ↦ Contains-behind y ys x (rest later)
    ]
    from false rest there = Contains-behind y ys x (rest there)

as_message : (vs : List VerdictFields) (v : VerdictFields) → Contains vs v → Contains (map Verdict vs) (Verdict v)
as_message [] v m = absurd (nothing_there v m)
as_message (w ∷ vs) v m =
    elim (cases_behind w vs v m) as (λ _. Contains (map Verdict (w ∷ vs)) (Verdict v)) [
      | inl same ↦ subst (λ (z : VerdictFields). Contains (map Verdict (w ∷ vs)) (Verdict z)) same (Contains-head (Verdict w) (map Verdict vs))
      | inr later ↦ Contains-behind (Verdict w) (map Verdict vs) (Verdict v) (as_message vs v later)
    ]

of_message : (vs : List VerdictFields) (v : VerdictFields) → Contains (map Verdict vs) (Verdict v) → Contains vs v
of_message [] v m = absurd (nothing_there (Verdict v) m)
of_message (w ∷ vs) v m =
    elim (cases_behind (Verdict w) (map Verdict vs) (Verdict v) m) as (λ _. Contains (w ∷ vs) v) [
      | inl same ↦ let equal : w ≡ v = cc in subst (λ (z : VerdictFields). Contains (w ∷ vs) z) equal (Contains-head w vs)
      | inr later ↦ Contains-behind w vs v (of_message vs v later)
    ]

-- ---- one set and the other

module _ (f : RosterFields Cmnd) (set : List Message) (q : RequestFields) (vs : List VerdictFields)
    (has : (v : VerdictFields) → IsAbout q v → (Contains vs v ↔ Contains set (Verdict v))) where
  to_set : (v : VerdictFields) → IsAbout q v → Contains (messages_on q vs) (Verdict v) → Contains set (Verdict v)
  to_set v about m =
      elim (cases_behind (Request q) (map Verdict (filter (is_verdict_on q) vs)) (Verdict v) m) as (λ _. Contains set (Verdict v)) [
        | inl same ↦ absurd cc
        | inr there ↦ (has v about).0 (out_of_filter (is_verdict_on q) vs v (of_message (filter (is_verdict_on q) vs) v there))
      ]

  of_set : (v : VerdictFields) → IsAbout q v → Contains set (Verdict v) → Contains (messages_on q vs) (Verdict v)
  of_set v about m =
      let test = and_from _ _ ((bytes_eq-Decides v.of q.by).1 about.0) ((Decides-eqb v.no q.no).1 about.1) in
      Contains-behind (Request q) (map Verdict (filter (is_verdict_on q) vs)) (Verdict v)
      (as_message (filter (is_verdict_on q) vs) v (in_filter (is_verdict_on q) vs v ((has v about).1 m) test))

  given_there : (kind : VerdictKind) (v : VerdictFields) → IsGiven f (messages_on q vs) q kind v → IsGiven f set q kind v
  given_there kind v g = record {
    given = to_set v g.about g.given;
    about = g.about;
    kind_is = g.kind_is;
    ceiling = g.ceiling;
    ceiling_is = g.ceiling_is;
    counts_is = g.counts_is;
  }

  given_here : (kind : VerdictKind) (v : VerdictFields) → IsGiven f set q kind v → IsGiven f (messages_on q vs) q kind v
  given_here kind v g = record {
    given = of_set v g.about g.given;
    about = g.about;
    kind_is = g.kind_is;
    ceiling = g.ceiling;
    ceiling_is = g.ceiling_is;
    counts_is = g.counts_is;
  }

  pub completion_moved : (o : Option ℕ) → IsCompletionOf f (Some q) vs o → MatchOption o (NeverComplete f set q) (IsComplete f set q)
  completion_moved None never =
      λ moment is. never moment (complete f set (messages_on q vs) q moment (λ kind v. (given_here kind v, given_there kind v)) is)
  completion_moved (Some moment) is = complete f (messages_on q vs) set q moment (λ kind v. (given_there kind v, given_here kind v)) is
