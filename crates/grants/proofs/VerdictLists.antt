-- The verdicts that the marks of a summary keep are the set's verdicts on its request.
use Rattle.std.proofs.Common.{◌≡◌, List, [], ◌∷◌, ◌++◌, map, refl, sym, subst, inl, inr}
use Rattle.std.specs.List.{Contains}
use Rattle.std.proofs.lemmas.List.Elements.{Contains-append_left, Contains-append_right, Contains-append_cases}
use Rattle.messages.specs.Fields.{RequestFields, VerdictFields}
use Rattle.messages.specs.Names.{IsAbout}
use Rattle.messages.specs.declared.message.Message.{Message}
use Rattle.messages.specs.declared.message.Message.TheVariants.{Verdict}
use Rattle.messages.specs.declared.kind.VerdictKind.{VerdictKind}
use Rattle.messages.specs.declared.kind.VerdictKind.TheVariants.{Approve, Refuse, Revoke}
use Rattle.grants.specs.Marks.{Keep, verdict_of}
use Rattle.grants.specs.Summaries.{AreVerdictsOn}
use Rattle.grants.specs.declared.marks.Mark.{Mark}
use Rattle.grants.proofs.MarkLemmas.{mark_of, verdict_again}
use Rattle.grants.proofs.MemberCases.{nothing_there, cases_behind}
use Rattle.grants.proofs.Members.{Contains-head, Contains-behind}

module _ (q : RequestFields) (kind : VerdictKind) where
  abbrev pub verdicts_kept : List Mark → List VerdictFields
  verdicts_kept marks = map (verdict_of q kind) marks

  -- the verdict of a mark, and the mark of a verdict
  verdict_listed : (marks : List Mark) (r : Mark) → Contains marks r → Contains (verdicts_kept marks) (verdict_of q kind r)
  verdict_listed [] r m = absurd (nothing_there r m)
  verdict_listed (s ∷ rs) r m =
      elim (cases_behind s rs r m) as (λ _. Contains (verdicts_kept (s ∷ rs)) (verdict_of q kind r)) [
        | inl same ↦
            subst (λ (x : Mark). Contains (verdicts_kept (s ∷ rs)) (verdict_of q kind x)) same (Contains-head (verdict_of q kind s) (verdicts_kept rs))
        | inr more ↦ Contains-behind (verdict_of q kind s) (verdicts_kept rs) (verdict_of q kind r) (verdict_listed rs r more)
      ]

  mark_behind : (marks : List Mark) (v : VerdictFields) → Contains (verdicts_kept marks) v → (r : Mark) × Contains marks r × (verdict_of q kind r ≡ v)
  mark_behind [] v m = absurd (nothing_there v m)
  mark_behind (s ∷ rs) v m =
      elim (cases_behind (verdict_of q kind s) (verdicts_kept rs) v m) as (λ _. (r : Mark) × Contains (s ∷ rs) r × (verdict_of q kind r ≡ v)) [
        | inl same ↦ (s, Contains-head s rs, same)
        | inr more ↦ let found = mark_behind rs v more in (found.0, Contains-behind s rs found.0 found.1, found.2)
      ]

  module _ (set : List Message) (marks : List Mark) (k : Keep set q kind marks) (v : VerdictFields) where
    -- a verdict that is kept is one of the set, on the request
    given_and_about : Contains (verdicts_kept marks) v → Contains set (Verdict v) × IsAbout q v
    given_and_about m =
        let found = mark_behind marks v m in
        subst (λ (w : VerdictFields). Contains set (Verdict w) × IsAbout q w) found.2 ((k.each found.0).0 found.1, (refl, refl))

    -- and each of the kind is kept
    kept_of_kind : v.kind ≡ kind → Contains set (Verdict v) → IsAbout q v → Contains (verdicts_kept marks) v
    kept_of_kind is there about =
        let same : verdict_of q kind (mark_of v) ≡ v =
        subst (λ (x : VerdictKind). verdict_of q x (mark_of v) ≡ v) is (verdict_again q v about) in
        let mark : Contains marks (mark_of v) = (k.each (mark_of v)).1 (subst (λ (w : VerdictFields). Contains set (Verdict w)) (sym same) there) in
        subst (Contains (verdicts_kept marks)) same (verdict_listed marks (mark_of v) mark)

module _ (set : List Message) (q : RequestFields) (approvals refusals revocations : List Mark) (approved : Keep set q Approve approvals)
    (refused : Keep set q Refuse refusals) (revoked : Keep set q Revoke revocations) where
  abbrev first : List VerdictFields
  first = verdicts_kept q Approve approvals

  abbrev second : List VerdictFields
  second = verdicts_kept q Refuse refusals

  abbrev third : List VerdictFields
  third = verdicts_kept q Revoke revocations

  from_lists : (v : VerdictFields) → Contains ((first ++ second) ++ third) v → Contains set (Verdict v) × IsAbout q v
  from_lists v m =
      elim (Contains-append_cases (first ++ second) third v m) as (λ _. Contains set (Verdict v) × IsAbout q v) [
        | inl early ↦ elim (Contains-append_cases first second v early) as (λ _. Contains set (Verdict v) × IsAbout q v) [
          | inl one ↦ given_and_about q Approve set approvals approved v one
          | inr two ↦ given_and_about q Refuse set refusals refused v two
        ]
        | inr three ↦ given_and_about q Revoke set revocations revoked v three
      ]

  to_lists : (v : VerdictFields) → Contains set (Verdict v) × IsAbout q v → Contains ((first ++ second) ++ third) v
  to_lists v both = by v.kind refl
    where
      by : (kind : VerdictKind) → v.kind ≡ kind → Contains ((first ++ second) ++ third) v
      by Approve is =
          Contains-append_left (first ++ second) third v
          (Contains-append_left first second v (kept_of_kind q Approve set approvals approved v is both.0 both.1))
      by Refuse is =
          Contains-append_left (first ++ second) third v
          (Contains-append_right first second v (kept_of_kind q Refuse set refusals refused v is both.0 both.1))
      by Revoke is = Contains-append_right (first ++ second) third v (kept_of_kind q Revoke set revocations revoked v is both.0 both.1)

  pub are_verdicts : AreVerdictsOn set q ((first ++ second) ++ third)
  are_verdicts = λ v. (from_lists v, to_lists v)
