-- The texts of a set's messages, sorted and without repeats.
use Rattle.std.proofs.Common.{◌≡◌, ℕ, List, [], ◌∷◌, ◌++◌, map, String, Global, sym, ap, ◌∙◌, subst, inl, inr}
use Rattle.std.specs.Prelude.{string_bytes}
use Rattle.std.specs.List.{Contains, dedup}
use Rattle.std.specs.List.Retain.{IsFiltered, DiffersFromLast}
use Rattle.std.specs.List.Sorted.{IsPermutation, IsSorted, IsStrictlySortedBy}
use Rattle.std.specs.Cmp.Lexicographic.{bytes_decides, texts_ties}
use Rattle.std.specs.String.{string_cmp, string_eq, string_cmp_total, string_eq_equiv}
use Rattle.std.proofs.lemmas.List.{map-append}
use Rattle.std.proofs.lemmas.List.Filters.{dedup_is}
use Rattle.std.proofs.lemmas.List.Kept.{Any-dedup, Contains-from_dedup, IsStrictlySortedBy-dedup}
use Rattle.std.proofs.lemmas.List.Sorted.{Contains-permutation, IsPermutation-sym}
use Rattle.messages.specs.Names.{SameMessages}
use Rattle.messages.specs.Wire.{IsMessage, wire}
use Rattle.messages.specs.declared.message.Message.{Message}
use Rattle.messages.proofs.NameOrder.{texts_strict}
use Rattle.messages.proofs.Uniqueness.{one_message}
use Rattle.messages.specs.Order.{TextPrecedes}
use Rattle.outcomes.proofs.Membership.{no_member, Contains-head, Contains-behind, Contains-cases}
use Rattle.outcomes.proofs.Orders.{same_lists}
use Rattle.outcomes.proofs.ParkedLemmas.{from_texts, in_texts, texts_in_order}
use Rattle.desk.specs.Texts.{AreTexts}

-- ---- one more text

pub one_more : (old new : List (String Global)) (x : String Global) (ms : List Message) (m : Message)
    → new ≡ old ++ x ∷ [] → string_bytes x ≡ wire m → map string_bytes old ≡ map wire ms → map string_bytes new ≡ map wire (ms ++ m ∷ [])
one_more old new x ms m more text are =
    ap (λ (l : List (String Global)). map string_bytes l) more
    ∙ map-append string_bytes old (x ∷ [])
    ∙ ap (λ (t : List ℕ). map string_bytes old ++ t ∷ []) text
    ∙ ap (λ (ts : List (List ℕ)). ts ++ wire m ∷ []) are
    ∙ sym (map-append wire ms (m ∷ []))

-- ---- whose texts they are

to_wires : (ms : List Message) (m : Message) → Contains ms m → Contains (map wire ms) (wire m)
to_wires [] m h = absurd (no_member m h)
to_wires (n ∷ ms) m h =
    elim (Contains-cases n ms m h) as (λ _. Contains (wire n ∷ map wire ms) (wire m)) [
      | inl same ↦ subst (λ (x : Message). Contains (wire n ∷ map wire ms) (wire x)) same (Contains-head (wire n) (map wire ms))
      | inr later ↦ Contains-behind (wire n) (map wire ms) (wire m) (to_wires ms m later)
    ]

from_wires : (ms : List Message) (text : List ℕ) → Contains (map wire ms) text → (m : Message) × Contains ms m × (text ≡ wire m)
from_wires [] text h = absurd (no_member text h)
from_wires (n ∷ ms) text h =
    elim (Contains-cases (wire n) (map wire ms) text h) as (λ _. (m : Message) × Contains (n ∷ ms) m × (text ≡ wire m)) [
      | inl same ↦ (n, Contains-head n ms, sym same)
      | inr later ↦ let found = from_wires ms text later in (found.0, Contains-behind n ms found.0 found.1, found.2)
    ]

-- ---- each once, in byte order

module _ (set : List Message) (texts sorted kept : List (String Global)) (are : map string_bytes texts ≡ map wire set)
    (moved : IsPermutation texts sorted) (ordered : IsSorted string_cmp sorted) (filtered : IsFiltered (DiffersFromLast string_eq) [] sorted kept) where
  kept_is : kept ≡ dedup string_eq sorted
  kept_is = dedup_is string_eq sorted kept filtered

  strictly : IsStrictlySortedBy string_cmp kept
  strictly =
      subst (IsStrictlySortedBy string_cmp) (sym kept_is)
      (IsStrictlySortedBy-dedup string_cmp_total (λ x y. texts_ties (string_bytes x) (string_bytes y)) sorted ordered)

  each_of_set : (text : List ℕ) → Contains (map string_bytes kept) text → (m : Message) × Contains set m × (text ≡ wire m)
  each_of_set text h =
      let found = from_texts kept text h in
      let there = Contains-permutation sorted texts found.0 (IsPermutation-sym texts sorted moved)
      (Contains-from_dedup string_eq sorted found.0 (subst (λ (l : List (String Global)). Contains l found.0) kept_is found.1)) in
      from_wires set text
      (subst (λ (l : List (List ℕ)). Contains l text) are (subst (Contains (map string_bytes texts)) found.2 (in_texts texts found.0 there)))

  all_of_set : (m : Message) → Contains set m → Contains (map string_bytes kept) (wire m)
  all_of_set m h =
      let found = from_texts texts (wire m) (subst (λ (l : List (List ℕ)). Contains l (wire m)) (sym are) (to_wires set m h)) in
      let there = Contains-permutation texts sorted found.0 moved found.1 in
      let same = Any-dedup string_eq_equiv sorted found.0 there in
      let inside : Contains kept same.1 = subst (λ (l : List (String Global)). Contains l same.1) (sym kept_is) (same.0, same.2, same.3) in
      let bytes : string_bytes found.0 ≡ string_bytes same.1 = (bytes_decides (string_bytes found.0) (string_bytes same.1)).0 same.4 in
      subst (Contains (map string_bytes kept)) (sym bytes ∙ found.2) (in_texts kept same.1 inside)

  pub are_texts : AreTexts set (map string_bytes kept)
  are_texts = record { in_order = texts_in_order kept strictly; each = each_of_set; all = all_of_set }

-- ---- one list for a set, and one set for a list

pub texts_of_set : (s t : List Message) (texts : List (List ℕ)) → SameMessages s t → AreTexts s texts → AreTexts t texts
texts_of_set s t texts same are = record {
  in_order = are.in_order;
  each = λ text h. let found = are.each text h in (found.0, (same found.0).0 found.1, found.2);
  all = λ m h. are.all m ((same m).1 h);
}

in_other : (s : List Message) (a b : List (List ℕ)) → AreTexts s a → AreTexts s b → (text : List ℕ) → Contains a text → Contains b text
in_other s a b x y text h = let found = x.each text h in subst (Contains b) (sym found.2) (y.all found.0 found.1)

pub one_texts : (s t : List Message) (a b : List (List ℕ)) → SameMessages s t → AreTexts s a → AreTexts t b → a ≡ b
one_texts s t a b same x y =
    let moved = texts_of_set s t a same x in
    same_lists TextPrecedes texts_strict a b moved.in_order y.in_order (in_other t a b moved y) (in_other t b a y moved)

among : (s t : List Message) (a : List (List ℕ)) → ((m : Message) → Contains s m → IsMessage m) → ((m : Message) → Contains t m → IsMessage m)
    → AreTexts s a → AreTexts t a → (m : Message) → Contains s m → Contains t m
among s t a known also x y m h =
    let found = y.each (wire m) (x.all m h) in
    subst (Contains t) (sym (one_message m found.0 (known m h) (also found.0 found.1) found.2)) found.1

pub one_set : (s t : List Message) (a : List (List ℕ)) → ((m : Message) → Contains s m → IsMessage m) → ((m : Message) → Contains t m → IsMessage m)
    → AreTexts s a → AreTexts t a → SameMessages s t
one_set s t a known also x y m = (among s t a known also x y m, among t s a also known y x m)
