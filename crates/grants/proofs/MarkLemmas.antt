-- The marks of one kind, as a set grows.
use Rattle.std.proofs.Common.{◌≡◌, ◌⊎◌, Ordering, Less, Equal, Greater, List, [], ◌∷◌, ◌++◌, refl, sym, ap, ◌∙◌, subst, inl, inr}
use Rattle.std.specs.BTreeSet.{insert_key}
use Rattle.std.specs.Cmp.{IsTotalOrder}
use Rattle.std.specs.Cmp.Lexicographic.{slice_cmp}
use Rattle.std.specs.FinSet.{nat_cmp-IsAntisymmetric, slice_cmp-IsAntisymmetric}
use Rattle.std.specs.List.{Contains, AllByRecursion}
use Rattle.std.specs.List.Sorted.{IsStrictlySortedBy}
use Rattle.std.specs.Ordering.{nat_cmp, match_ordering, ordering_then, ordering_reverse}
use Rattle.std.proofs.lemmas.Cmp.{nat_cmp_total, nat_list_cmp_total, on_total, then_total}
use Rattle.std.proofs.lemmas.List.Elements.{Contains-append_left, Contains-push, Contains-push_cases}
use Rattle.messages.specs.Fields.{RequestFields, VerdictFields}
use Rattle.messages.specs.declared.message.Message.{Message}
use Rattle.messages.specs.declared.message.Message.TheVariants.{Verdict}
use Rattle.messages.specs.declared.kind.VerdictKind.{VerdictKind}
use Rattle.messages.specs.Names.{IsAbout}
use Rattle.messages.proofs.OneMessage.{one_verdict}
use Rattle.grants.specs.declared.marks.Mark.{Mark}
use Rattle.grants.specs.Marks.{verdict_of, mark_cmp, Keep}
use Rattle.grants.specs.private.Noting.{noted}
use Rattle.grants.proofs.MemberCases.{nothing_there, cases_behind}
use Rattle.grants.proofs.Members.{Contains-head, Contains-behind}

-- ---- the order of marks

pub mark_cmp_total : IsTotalOrder mark_cmp
mark_cmp_total = then_total (on_total (λ (m : Mark). m.person) nat_list_cmp_total) (on_total (λ (m : Mark). m.at) nat_cmp_total)

both_tie : (a b : Ordering) → ordering_then a b ≡ Equal → (a ≡ Equal) × (b ≡ Equal)
both_tie Less b e = absurd cc
both_tie Equal b e = (refl, e)
both_tie Greater b e = absurd cc

same_mark : (r s : Mark) → mark_cmp r s ≡ Equal → r ≡ s
same_mark r s e =
    let ties = both_tie (slice_cmp nat_cmp r.person s.person) (nat_cmp r.at s.at) e in
    let person : r.person ≡ s.person = slice_cmp-IsAntisymmetric nat_cmp-IsAntisymmetric r.person s.person ties.0 in
    let at : r.at ≡ s.at = nat_cmp-IsAntisymmetric r.at s.at ties.1 in
    rw (person, at) refl

turned : (r s : Mark) → mark_cmp r s ≡ Greater → mark_cmp s r ≡ Less
turned r s e = mark_cmp_total.antisymm s r ∙ ap ordering_reverse e

-- ---- a mark is put among others

each_behind : (P : Mark → Type 0) (k : Mark) (marks : List Mark) → P k → AllByRecursion P marks → AllByRecursion P (insert_key mark_cmp marks k)
each_behind P k [] here all = (here, tt)
each_behind P k (x ∷ xs) here all = go (mark_cmp k x) (each_behind P k xs here all.1)
  where
    go : (o : Ordering) → AllByRecursion P (insert_key mark_cmp xs k) → AllByRecursion P (match_ordering o (k ∷ x ∷ xs) (x ∷ xs) (x ∷ insert_key mark_cmp xs k))
    go Less rest = (here, all)
    go Equal rest = all
    go Greater rest = (all.0, rest)

all_below : (k x : Mark) (xs : List Mark) → mark_cmp k x ≡ Less → AllByRecursion (λ y. mark_cmp x y ≡ Less) xs → AllByRecursion (λ y. mark_cmp k y ≡ Less) xs
all_below k x [] e all = tt
all_below k x (y ∷ ys) e all = (mark_cmp_total.trans k x y e all.0, all_below k x ys e all.1)

pub sorted_still : (k : Mark) (marks : List Mark) → IsStrictlySortedBy mark_cmp marks → IsStrictlySortedBy mark_cmp (insert_key mark_cmp marks k)
unfolding IsStrictlySortedBy
sorted_still k [] s = (tt, tt)
sorted_still k (x ∷ xs) s = go (mark_cmp k x) refl (sorted_still k xs s.1)
  where
    go : (o : Ordering) → mark_cmp k x ≡ o → IsStrictlySortedBy mark_cmp (insert_key mark_cmp xs k)
        → IsStrictlySortedBy mark_cmp (match_ordering o (k ∷ x ∷ xs) (x ∷ xs) (x ∷ insert_key mark_cmp xs k))
    go Less e rest = ((e, all_below k x xs e s.0), s)
    go Equal e rest = s
    go Greater e rest = (each_behind (λ y. mark_cmp x y ≡ Less) k xs (turned k x e) s.0, rest)

pub there_still : (k : Mark) (marks : List Mark) (r : Mark) → Contains marks r → Contains (insert_key mark_cmp marks k) r
there_still k [] r h = absurd (nothing_there r h)
there_still k (x ∷ xs) r h = go (mark_cmp k x) (there_still k xs r)
  where
    go : (o : Ordering) → (Contains xs r → Contains (insert_key mark_cmp xs k) r)
        → Contains (match_ordering o (k ∷ x ∷ xs) (x ∷ xs) (x ∷ insert_key mark_cmp xs k)) r
    go Less rest = Contains-behind k (x ∷ xs) r h
    go Equal rest = h
    go Greater rest = elim (cases_behind x xs r h) as (λ _. Contains (x ∷ insert_key mark_cmp xs k) r) [
      | inl same ↦ subst (λ (m : Mark). Contains (x ∷ insert_key mark_cmp xs k) m) same (Contains-head x (insert_key mark_cmp xs k))
      | inr there ↦ Contains-behind x (insert_key mark_cmp xs k) r (rest there)
    ]

pub there_now : (k : Mark) (marks : List Mark) → Contains (insert_key mark_cmp marks k) k
there_now k [] = Contains-head k []
there_now k (x ∷ xs) = go (mark_cmp k x) refl (there_now k xs)
  where
    go : (o : Ordering) → mark_cmp k x ≡ o → Contains (insert_key mark_cmp xs k) k
        → Contains (match_ordering o (k ∷ x ∷ xs) (x ∷ xs) (x ∷ insert_key mark_cmp xs k)) k
    go Less e rest = Contains-head k (x ∷ xs)
    go Equal e rest = subst (λ (m : Mark). Contains (x ∷ xs) m) (sym (same_mark k x e)) (Contains-head x xs)
    go Greater e rest = Contains-behind x (insert_key mark_cmp xs k) k rest

pub either_there : (k : Mark) (marks : List Mark) (r : Mark) → Contains (insert_key mark_cmp marks k) r → Contains marks r ⊎ (k ≡ r)
either_there k [] r h = elim (cases_behind k [] r h) as (λ _. Contains [] r ⊎ (k ≡ r)) [ inl same ↦ inr same | inr none ↦ inl none ]
either_there k (x ∷ xs) r h = go (mark_cmp k x) (either_there k xs r) h
  where
    go : (o : Ordering) → (Contains (insert_key mark_cmp xs k) r → Contains xs r ⊎ (k ≡ r))
        → Contains (match_ordering o (k ∷ x ∷ xs) (x ∷ xs) (x ∷ insert_key mark_cmp xs k)) r → Contains (x ∷ xs) r ⊎ (k ≡ r)
    go Less rest m = elim (cases_behind k (x ∷ xs) r m) as (λ _. Contains (x ∷ xs) r ⊎ (k ≡ r)) [ inl same ↦ inr same | inr there ↦ inl there ]
    go Equal rest m = inl m
    go Greater rest m = elim (cases_behind x (insert_key mark_cmp xs k) r m) as (λ _. Contains (x ∷ xs) r ⊎ (k ≡ r)) [
      | inl same ↦ inl (subst (λ (y : Mark). Contains (x ∷ xs) y) same (Contains-head x xs))
      | inr there ↦ elim (rest there) as (λ _. Contains (x ∷ xs) r ⊎ (k ≡ r)) [ inl old ↦ inl (Contains-behind x xs r old) | inr new ↦ inr new ]
    ]

-- ---- growth

-- where there is no verdict of the kind, nothing is kept
pub keep_nothing : (set : List Message) (q : RequestFields) (kind : VerdictKind)
    → ((v : VerdictFields) → Contains set (Verdict v) → IsAbout q v → v.kind ≡ kind → ⊥) → Keep set q kind []
unfolding IsStrictlySortedBy
keep_nothing set q kind none = record {
  each = λ r. (λ h. absurd (nothing_there r h), λ h. absurd (none (verdict_of q kind r) h (refl, refl) refl));
  once = tt;
}

-- a message that is no verdict of the kind on the request changes nothing
pub keep_other : (set : List Message) (m : Message) (q : RequestFields) (kind : VerdictKind) (marks : List Mark)
    → ((v : VerdictFields) → m ≡ Verdict v → IsAbout q v → v.kind ≡ kind → ⊥) → Keep set q kind marks → Keep (set ++ m ∷ []) q kind marks
keep_other set m q kind marks other k = record {
  each = λ r. (
    λ h. Contains-append_left set (m ∷ []) (Verdict (verdict_of q kind r)) ((k.each r).0 h),
    λ h. elim (Contains-push_cases set m (Verdict (verdict_of q kind r)) h) as (λ _. Contains marks r) [
      | inl old ↦ (k.each r).1 old
      | inr new ↦ absurd (other (verdict_of q kind r) new (refl, refl) refl)
    ],
  );
  once = k.once;
}

-- the mark of a verdict, and the verdict of a mark
abbrev pub mark_of : VerdictFields → Mark
mark_of v = record { person = v.by; at = v.at }

pub verdict_again : (q : RequestFields) (v : VerdictFields) → IsAbout q v → verdict_of q v.kind (mark_of v) ≡ v
verdict_again q v about = rw (← about.0, ← about.1) refl

pub mark_again : (q : RequestFields) (kind : VerdictKind) (v : VerdictFields) (r : Mark) → v ≡ verdict_of q kind r → mark_of v ≡ r
mark_again q kind v r e = ap mark_of e

pub keep_noted : (set : List Message) (q : RequestFields) (v : VerdictFields) (marks : List Mark)
    → IsAbout q v → Keep set q v.kind marks → Keep (set ++ Verdict v ∷ []) q v.kind (noted v.by v.at marks)
keep_noted set q v marks about k = record {
  each = λ r. (
    λ h. elim (either_there (mark_of v) marks r h) as (λ _. Contains (set ++ Verdict v ∷ []) (Verdict (verdict_of q v.kind r))) [
      | inl old ↦ Contains-append_left set (Verdict v ∷ []) (Verdict (verdict_of q v.kind r)) ((k.each r).0 old)
      | inr new ↦
          let same : v ≡ verdict_of q v.kind r = sym (verdict_again q v about) ∙ ap (λ (s : Mark). verdict_of q v.kind s) new in
          subst (λ (w : VerdictFields). Contains (set ++ Verdict v ∷ []) (Verdict w)) same (Contains-push set (Verdict v))
    ],
    λ h. elim (Contains-push_cases set (Verdict v) (Verdict (verdict_of q v.kind r)) h) as (λ _. Contains (noted v.by v.at marks) r) [
      | inl old ↦ there_still (mark_of v) marks r ((k.each r).1 old)
      | inr new ↦
          subst (λ (s : Mark). Contains (noted v.by v.at marks) s)
          (mark_again q v.kind v r (one_verdict v (verdict_of q v.kind r) new)) (there_now (mark_of v) marks)
    ],
  );
  once = sorted_still (mark_of v) marks k.once;
}
