-- The approvals that a summary keeps are those of its set.
use Rattle.std.proofs.Common.{◌≡◌, ℕ, Less, List, [], ◌∷◌, map, ap, subst, inl, inr}
use Rattle.std.specs.List.{Contains, AllByRecursion}
use Rattle.std.specs.List.Sorted.{IsStrictlySortedBy}
use Rattle.messages.specs.Fields.{RequestFields}
use Rattle.messages.specs.declared.message.Message.{Message}
use Rattle.messages.specs.declared.kind.VerdictKind.TheVariants.{Approve}
use Rattle.grants.specs.Marks.{mark_cmp, Keep}
use Rattle.grants.specs.private.Noting.{shown}
use Rattle.grants.specs.Summaries.{AreApprovals, approval_cmp}
use Rattle.grants.specs.declared.marks.Mark.{Mark}
use Rattle.grants.proofs.MemberCases.{nothing_there, cases_behind}
use Rattle.grants.proofs.Members.{Contains-head, Contains-behind}

abbrev mark_at : List ℕ → ℕ → Mark
mark_at person moment = record { person = person; at = moment }

-- ---- marks of a list, and what they are shown as

mark_shown : (marks : List Mark) (person : List ℕ) (moment : ℕ) → Contains (map shown marks) (person, moment) → Contains marks (mark_at person moment)
mark_shown [] person moment m = absurd (nothing_there (person, moment) m)
mark_shown (r ∷ rs) person moment m =
    elim (cases_behind (shown r) (map shown rs) (person, moment) m) as (λ _. Contains (r ∷ rs) (mark_at person moment)) [
      | inl same ↦
          let is : r ≡ mark_at person moment = ap (λ (x : List ℕ × ℕ). mark_at x.0 x.1) same in
          subst (λ (s : Mark). Contains (r ∷ rs) s) is (Contains-head r rs)
      | inr more ↦ Contains-behind r rs (mark_at person moment) (mark_shown rs person moment more)
    ]

shown_mark : (marks : List Mark) (r : Mark) → Contains marks r → Contains (map shown marks) (shown r)
shown_mark [] r m = absurd (nothing_there r m)
shown_mark (s ∷ rs) r m =
    elim (cases_behind s rs r m) as (λ _. Contains (map shown (s ∷ rs)) (shown r)) [
      | inl same ↦ subst (λ (x : Mark). Contains (map shown (s ∷ rs)) (shown x)) same (Contains-head (shown s) (map shown rs))
      | inr more ↦ Contains-behind (shown s) (map shown rs) (shown r) (shown_mark rs r more)
    ]

all_shown : (r : Mark) (marks : List Mark) → AllByRecursion (λ s. mark_cmp r s ≡ Less) marks
    → AllByRecursion (λ x. approval_cmp (shown r) x ≡ Less) (map shown marks)
all_shown r [] all = tt
all_shown r (s ∷ rs) all = (all.0, all_shown r rs all.1)

sorted_shown : (marks : List Mark) → IsStrictlySortedBy mark_cmp marks → IsStrictlySortedBy approval_cmp (map shown marks)
unfolding IsStrictlySortedBy
sorted_shown [] s = tt
sorted_shown (r ∷ rs) s = (all_shown r rs s.0, sorted_shown rs s.1)

pub are_approvals : (set : List Message) (q : RequestFields) (marks : List Mark) → Keep set q Approve marks → AreApprovals set q (map shown marks)
are_approvals set q marks k = record {
  in_order = sorted_shown marks k.once;
  each = λ person moment. (
    λ m. (k.each (mark_at person moment)).0 (mark_shown marks person moment m),
    λ h. shown_mark marks (mark_at person moment) ((k.each (mark_at person moment)).1 h),
  );
}
