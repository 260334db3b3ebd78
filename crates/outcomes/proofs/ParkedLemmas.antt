-- The parked verdicts, from the texts of those that wait.
use Rattle.std.proofs.Common.{◌≡◌, ℕ, ◌+◌, ◌<◌, List, [], ◌∷◌, ◌++◌, map, length, take, get_or, String, Global, sym, ap, ◌∙◌, subst, inl, inr, append_assoc}
use Rattle.std.specs.Prelude.{string_bytes}
use Rattle.std.specs.List.{Contains, AllByRecursion, dedup}
use Rattle.std.specs.List.Retain.{IsFiltered, DiffersFromLast}
use Rattle.std.specs.List.Sorted.{IsPermutation, IsSorted, IsStrictlySortedBy}
use Rattle.std.specs.Cmp.Lexicographic.{bytes_decides, texts_ties}
use Rattle.std.specs.Ordering.{is_lt}
use Rattle.std.specs.declared.cmp.Ordering.TheVariants.{Less}
use Rattle.std.specs.String.{string_cmp, string_eq, string_cmp_total, string_eq_equiv}
use Rattle.std.proofs.lemmas.List.{map-append}
use Rattle.std.proofs.lemmas.List.Filters.{dedup_is}
use Rattle.std.proofs.lemmas.List.Kept.{Any-dedup, Contains-from_dedup, IsStrictlySortedBy-dedup}
use Rattle.std.proofs.lemmas.List.Sorted.{Contains-permutation, IsPermutation-sym}
use Rattle.std.proofs.lemmas.Map.Keys.{sorted_head, sorted_tail}
use Rattle.messages.specs.Fields.{VerdictFields}
use Rattle.messages.specs.Order.{AllAfter, AreInOrder, TextPrecedes}
use Rattle.messages.specs.Wire.{verdict_text, wire}
use Rattle.messages.specs.declared.message.Message.{Message}
use Rattle.messages.specs.declared.message.Message.TheVariants.{Verdict}
use Rattle.sudo_decide.proofs.AnswerLemmas.{take_one_more}
use Rattle.outcomes.specs.Gathered.{AreGathered, Known}
use Rattle.outcomes.specs.Parked.{AreParked, IsParked}
use Rattle.outcomes.proofs.Membership.{no_member, Contains-head, Contains-behind, Contains-cases}

-- ---- one more text

pub one_text_more : (vs : List VerdictFields) (i : ℕ) (v : VerdictFields) → i < length vs → v ≡ get_or vs i v
    → (front : List (List ℕ)) (old new : List (String Global)) (x : String Global) → map string_bytes old ≡ front ++ map verdict_text (take i vs)
    → string_bytes x ≡ verdict_text v → new ≡ old ++ x ∷ [] → map string_bytes new ≡ front ++ map verdict_text (take (i + 1) vs)
one_text_more vs i v within is front old new x was text more =
    ap (map string_bytes) more
    ∙ map-append string_bytes old (x ∷ [])
    ∙ ap (λ (t : List ℕ). map string_bytes old ++ t ∷ []) text
    ∙ ap (λ (ts : List (List ℕ)). ts ++ verdict_text v ∷ []) was
    ∙ append_assoc front (map verdict_text (take i vs)) (verdict_text v ∷ [])
    ∙ ap (λ (ts : List (List ℕ)). front ++ ts) (sym (map-append verdict_text (take i vs) (v ∷ [])))
    ∙ ap (λ (ws : List VerdictFields). front ++ map verdict_text ws) (sym (take_one_more vs i v within is))

-- ---- which they are

text_among : (vs : List VerdictFields) (v : VerdictFields) → Contains vs v → Contains (map verdict_text vs) (verdict_text v)
text_among [] v m = absurd (no_member v m)
text_among (w ∷ vs) v m =
    elim (Contains-cases w vs v m) as (λ _. Contains (map verdict_text (w ∷ vs)) (verdict_text v)) [
      | inl same ↦
          subst (λ (x : VerdictFields). Contains (map verdict_text (w ∷ vs)) (verdict_text x)) same (Contains-head (verdict_text w) (map verdict_text vs))
      | inr later ↦ Contains-behind (verdict_text w) (map verdict_text vs) (verdict_text v) (text_among vs v later)
    ]

of_text : (vs : List VerdictFields) (text : List ℕ) → Contains (map verdict_text vs) text → (v : VerdictFields) × Contains vs v × (text ≡ verdict_text v)
of_text [] text m = absurd (no_member text m)
of_text (w ∷ vs) text m =
    elim (Contains-cases (verdict_text w) (map verdict_text vs) text m) as (λ _. (v : VerdictFields) × Contains (w ∷ vs) v × (text ≡ verdict_text v)) [
      | inl same ↦ (w, Contains-head w vs, sym same)
      | inr later ↦ let found = of_text vs text later in (found.0, Contains-behind w vs found.0 found.1, found.2)
    ]

-- ---- each once, in byte order

pub in_texts : (xs : List (String Global)) (x : String Global) → Contains xs x → Contains (map string_bytes xs) (string_bytes x)
in_texts [] x m = absurd (no_member x m)
in_texts (y ∷ ys) x m =
    elim (Contains-cases y ys x m) as (λ _. Contains (string_bytes y ∷ map string_bytes ys) (string_bytes x)) [
      | inl same ↦ subst (λ (z : String Global). Contains (string_bytes y ∷ map string_bytes ys) (string_bytes z)) same
          (Contains-head (string_bytes y) (map string_bytes ys))
      | inr later ↦ Contains-behind (string_bytes y) (map string_bytes ys) (string_bytes x) (in_texts ys x later)
    ]

pub from_texts : (xs : List (String Global)) (text : List ℕ) → Contains (map string_bytes xs) text
    → (x : String Global) × Contains xs x × (string_bytes x ≡ text)
from_texts [] text m = absurd (no_member text m)
from_texts (y ∷ ys) text m =
    elim (Contains-cases (string_bytes y) (map string_bytes ys) text m) as (λ _. (x : String Global) × Contains (y ∷ ys) x × (string_bytes x ≡ text)) [
      | inl same ↦ (y, Contains-head y ys, same)
      | inr later ↦ let found = from_texts ys text later in (found.0, Contains-behind y ys found.0 found.1, found.2)
    ]

texts_behind : (x : String Global) (xs : List (String Global)) → AllByRecursion (λ y. string_cmp x y ≡ Less) xs
    → AllAfter TextPrecedes (string_bytes x) (map string_bytes xs)
texts_behind x [] all = tt
texts_behind x (y ∷ ys) all = (ap is_lt all.0, texts_behind x ys all.1)

pub texts_in_order : (xs : List (String Global)) → IsStrictlySortedBy string_cmp xs → AreInOrder TextPrecedes (map string_bytes xs)
texts_in_order [] s = tt
texts_in_order (x ∷ xs) s =
    (texts_behind x xs (sorted_head string_cmp x xs s), texts_in_order xs (sorted_tail string_cmp x xs s))

module _ (set : List Message) (known : Known) (g : AreGathered set known) (texts sorted kept : List (String Global))
    (are : map string_bytes texts ≡ map verdict_text known.waiting) (moved : IsPermutation texts sorted)
    (ordered : IsSorted string_cmp sorted) (filtered : IsFiltered (DiffersFromLast string_eq) [] sorted kept) where
  kept_is : kept ≡ dedup string_eq sorted
  kept_is = dedup_is string_eq sorted kept filtered

  strictly : IsStrictlySortedBy string_cmp kept
  strictly =
      subst (IsStrictlySortedBy string_cmp) (sym kept_is)
      (IsStrictlySortedBy-dedup string_cmp_total (λ x y. texts_ties (string_bytes x) (string_bytes y)) sorted ordered)

  each_parked : (text : List ℕ) → Contains (map string_bytes kept) text → (v : VerdictFields) × IsParked set v × (text ≡ wire (Verdict v))
  each_parked text m =
      let found = from_texts kept text m in
      let there = Contains-permutation sorted texts found.0 (IsPermutation-sym texts sorted moved)
      (Contains-from_dedup string_eq sorted found.0 (subst (λ (l : List (String Global)). Contains l found.0) kept_is found.1)) in
      let waits : Contains (map verdict_text known.waiting) text =
      subst (λ (l : List (List ℕ)). Contains l text) are (subst (Contains (map string_bytes texts)) found.2 (in_texts texts found.0 there)) in
      let verdict = of_text known.waiting text waits in
      (verdict.0, (g.waiting verdict.0).0 verdict.1, verdict.2)

  all_parked : (v : VerdictFields) → IsParked set v → Contains (map string_bytes kept) (wire (Verdict v))
  all_parked v is =
      let waits : Contains (map verdict_text known.waiting) (wire (Verdict v)) = text_among known.waiting v ((g.waiting v).1 is) in
      let found = from_texts texts (wire (Verdict v)) (subst (λ (l : List (List ℕ)). Contains l (wire (Verdict v))) (sym are) waits) in
      let there = Contains-permutation texts sorted found.0 moved found.1 in
      let same = Any-dedup string_eq_equiv sorted found.0 there in
      let inside : Contains kept same.1 = subst (λ (l : List (String Global)). Contains l same.1) (sym kept_is) (same.0, same.2, same.3) in
      let bytes : string_bytes found.0 ≡ string_bytes same.1 = (bytes_decides (string_bytes found.0) (string_bytes same.1)).0 same.4 in
      subst (Contains (map string_bytes kept)) (sym bytes ∙ found.2) (in_texts kept same.1 inside)

  pub are_parked : AreParked set (map string_bytes kept)
  are_parked = record { in_order = texts_in_order kept strictly; each = each_parked; all = all_parked }
