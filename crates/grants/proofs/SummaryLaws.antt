-- What a summary keeps is determined by its set.
use Rattle.std.proofs.Common.{◌≡◌, true, false, Less, Greater, List, [], ◌∷◌, refl, sym, ap, ◌∙◌, subst, inl, inr}
use Rattle.std.specs.List.{Contains, AllByRecursion}
use Rattle.std.specs.List.Sorted.{IsStrictlySortedBy}
use Rattle.std.specs.Ordering.{ordering_reverse}
use Rattle.std.proofs.lemmas.Bool.{cases_Bool}
use Rattle.messages.specs.Fields.{RequestFields, VerdictFields}
use Rattle.messages.specs.Names.{SameName}
use Rattle.messages.specs.declared.message.Message.{Message}
use Rattle.messages.specs.declared.message.Message.TheVariants.{Verdict}
use Rattle.messages.specs.declared.kind.VerdictKind.{VerdictKind}
use Rattle.messages.specs.declared.kind.VerdictKind.TheVariants.{Approve, Refuse, Revoke}
use Rattle.grants.specs.Marks.{verdict_of, mark_cmp, Keep}
use Rattle.grants.specs.Summaries.{Kept, StandsFor}
use Rattle.grants.specs.declared.marks.Mark.{Mark}
use Rattle.grants.proofs.MarkLemmas.{mark_cmp_total}
use Rattle.grants.proofs.MemberCases.{nothing_there, cases_behind}
use Rattle.grants.proofs.Members.{Contains-head, Contains-behind}

-- ---- marks in order are determined by which they are

not_both : (r s : Mark) → mark_cmp r s ≡ Less → mark_cmp s r ≡ Less → ⊥
not_both r s e f = let wrong : Less ≡ Greater = sym e ∙ mark_cmp_total.antisymm r s ∙ ap ordering_reverse f in absurd cc

less_behind : (x : Mark) (xs : List Mark) (r : Mark) → AllByRecursion (λ y. mark_cmp x y ≡ Less) xs → Contains xs r → mark_cmp x r ≡ Less
less_behind x [] r all h = absurd (nothing_there r h)
less_behind x (y ∷ ys) r all h =
    elim (cases_behind y ys r h) as (λ _. mark_cmp x r ≡ Less) [
      | inl same ↦ subst (λ (s : Mark). mark_cmp x s ≡ Less) same all.0
      | inr there ↦ less_behind x ys r all.1 there
    ]

abbrev Within : List Mark → List Mark → Type 0
Within xs ys = (r : Mark) → Contains xs r → Contains ys r

same_head : (x y : Mark) (xs ys : List Mark) → AllByRecursion (λ r. mark_cmp x r ≡ Less) xs
    → AllByRecursion (λ r. mark_cmp y r ≡ Less) ys → Within (x ∷ xs) (y ∷ ys) → Within (y ∷ ys) (x ∷ xs) → x ≡ y
same_head x y xs ys low high to back =
    elim (cases_behind y ys x (to x (Contains-head x xs))) as (λ _. x ≡ y) [
      | inl same ↦ sym same
      | inr there ↦ elim (cases_behind x xs y (back y (Contains-head y ys))) as (λ _. x ≡ y) [
        | inl same ↦ same
        | inr here ↦ absurd (not_both x y (less_behind x xs y low here) (less_behind y ys x high there))
      ]
    ]

-- where the heads are the same, the rest of one list lies within the rest of the other
within_tail : (x : Mark) (xs ys : List Mark) → AllByRecursion (λ r. mark_cmp x r ≡ Less) xs → Within (x ∷ xs) (x ∷ ys) → Within xs ys
within_tail x xs ys low to r h =
    elim (cases_behind x ys r (to r (Contains-behind x xs r h))) as (λ _. Contains ys r) [
      | inl same ↦
          let less : mark_cmp x x ≡ Less = subst (λ (s : Mark). mark_cmp x s ≡ Less) (sym same) (less_behind x xs r low h) in
          absurd (not_both x x less less)
      | inr there ↦ there
    ]

same_marks : (xs ys : List Mark) → IsStrictlySortedBy mark_cmp xs → IsStrictlySortedBy mark_cmp ys → Within xs ys → Within ys xs → xs ≡ ys
unfolding IsStrictlySortedBy
same_marks [] [] s t to back = refl
same_marks [] (y ∷ ys) s t to back = absurd (nothing_there y (back y (Contains-head y ys)))
same_marks (x ∷ xs) [] s t to back = absurd (nothing_there x (to x (Contains-head x xs)))
same_marks (x ∷ xs) (y ∷ ys) s t to back =
    let head : x ≡ y = same_head x y xs ys s.0 t.0 to back in
    let low : AllByRecursion (λ r. mark_cmp x r ≡ Less) ys = subst (λ (z : Mark). AllByRecursion (λ r. mark_cmp z r ≡ Less) ys) (sym head) t.0 in
    let to_tail : Within (x ∷ xs) (x ∷ ys) = subst (λ (z : Mark). Within (x ∷ xs) (z ∷ ys)) (sym head) to in
    let back_tail : Within (x ∷ ys) (x ∷ xs) = subst (λ (z : Mark). Within (z ∷ ys) (x ∷ xs)) (sym head) back in
    let tail : xs ≡ ys = same_marks xs ys s.1 t.1 (within_tail x xs ys s.0 to_tail) (within_tail x ys xs low back_tail) in
    rw (head, tail) refl

-- ---- what is kept

same_kept : (set : List Message) (p q : RequestFields) (kind : VerdictKind) (xs ys : List Mark)
    → SameName p q → Keep set p kind xs → Keep set q kind ys → xs ≡ ys
same_kept set p q kind xs ys named k l =
    same_marks xs ys k.once l.once (λ r h. (l.each r).1 (subst (λ (v : VerdictFields). Contains set (Verdict v)) (same r) ((k.each r).0 h)))
    (λ r h. (k.each r).1 (subst (λ (v : VerdictFields). Contains set (Verdict v)) (sym (same r)) ((l.each r).0 h)))
  where
    same : (r : Mark) → verdict_of p kind r ≡ verdict_of q kind r
    same r = rw (named.0, named.1) refl

pub marks : (set : List Message) (a b : Kept) → StandsFor set a → StandsFor set b → SameName a.request b.request
    → (a.approvals ≡ b.approvals) × (a.refusals ≡ b.refusals) × (a.revocations ≡ b.revocations)
marks set a b s t named = (
  same_kept set a.request b.request Approve a.approvals b.approvals named s.approvals t.approvals,
  same_kept set a.request b.request Refuse a.refusals b.refusals named s.refusals t.refusals,
  same_kept set a.request b.request Revoke a.revocations b.revocations named s.revocations t.revocations,
)

turned : (p q : RequestFields) → SameName p q → SameName q p
turned p q named = (sym named.0, sym named.1)

-- if one is disputed, so is the other
also_disputed : (set : List Message) (a b : Kept) → StandsFor set a → StandsFor set b
    → SameName a.request b.request → a.is_disputed ≡ true → b.is_disputed ≡ false → ⊥
also_disputed set a b s t named two single =
    let found = s.other two in
    let first : a.request ≡ b.request = t.alone single a.request s.asked named in
    let second : found.0 ≡ b.request = t.alone single found.0 found.1 (found.2.0 ∙ named.0, found.2.1 ∙ named.1) in
    found.3 (second ∙ sym first)

pub disputed : (set : List Message) (a b : Kept) → StandsFor set a → StandsFor set b → SameName a.request b.request → a.is_disputed ≡ b.is_disputed
disputed set a b s t named =
    elim (cases_Bool a.is_disputed) as (λ _. a.is_disputed ≡ b.is_disputed) [
      | inl x ↦ elim (cases_Bool b.is_disputed) as (λ _. a.is_disputed ≡ b.is_disputed) [
        | inl y ↦ x ∙ sym y
        | inr y ↦ absurd (also_disputed set a b s t named x y)
      ]
      | inr x ↦ elim (cases_Bool b.is_disputed) as (λ _. a.is_disputed ≡ b.is_disputed) [
        | inl y ↦ absurd (also_disputed set b a t s (turned a.request b.request named) y x)
        | inr y ↦ x ∙ sym y
      ]
    ]

pub alone : (set : List Message) (a b : Kept) → StandsFor set a → StandsFor set b → SameName a.request b.request → a.is_disputed ≡ false → a ≡ b
alone set a b s t named single =
    let same = disputed set a b s t named in
    let request : a.request ≡ b.request = t.alone (sym same ∙ single) a.request s.asked named in
    let kept = marks set a b s t named in
    rw (request, same, kept.0, kept.1, kept.2) refl
