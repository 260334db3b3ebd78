-- How many messages a list has, by their texts in order.
use Rattle.std.proofs.Common.{◌≡◌, ◌≢◌, ◌∙◌, ℕ, ◌+◌, ◌<◌, Bool, Bor, List, [], ◌∷◌, map, length, get_or, AllPairs, Ordering, Less, Equal, Greater}
use Rattle.std.proofs.Common.{true, false, refl, sym, ap, arith, true≢false}
use Rattle.std.specs.Cmp.{IsTotalOrder}
use Rattle.std.specs.Cmp.Lexicographic.{slice_cmp}
use Rattle.std.specs.List.{AllAdjacentBelow, IsDistinct}
use Rattle.std.specs.List.Sorted.{IsPermutation, IsStrictlySortedBy}
use Rattle.std.specs.Ordering.{eq_by_cmp, is_ge, nat_cmp}
use Rattle.std.proofs.lemmas.Cmp.{eq_by_cmp_equiv, nat_list_cmp_total, on_total}
use Rattle.std.proofs.lemmas.List.{get_or-map, length-map}
use Rattle.std.proofs.lemmas.List.Sorted.{IsPermutation-sym}
use Rattle.std.proofs.lemmas.Map.Keys.{apart_from_distinct, IsDistinct-from_sorted, IsDistinct-IsPermutation, sorted_from_all_adjacent}
use Rattle.std.proofs.lemmas.Map.Text.{is_eq-slice_cmp}
use Rattle.std.proofs.lemmas.Slice.Eq.{bytes_eq-Decides}
use Rattle.messages.specs.Wire.{wire}
use Rattle.messages.specs.declared.message.Message.{Message}

abbrev Text : Type 0
Text = Bor (List ℕ)

abbrev text_cmp : Text → Text → Ordering
text_cmp a b = slice_cmp nat_cmp a.now b.now

text_total : IsTotalOrder text_cmp
text_total = on_total (λ (t : Text). t.now) nat_list_cmp_total

-- the one text comes before the other
abbrev pub Precedes : Text → Text → Type 0
Precedes a b = text_cmp a b ≡ Less

pub precedes : (o : Ordering) → is_ge o ≡ false → o ≡ Less
precedes Less h = refl
precedes Equal h = absurd (true≢false h)
precedes Greater h = absurd (true≢false h)

-- texts each of which comes before the next one rise
pub ascending : (d : Text) (texts : List Text) → AllAdjacentBelow Precedes texts (length texts) → IsStrictlySortedBy text_cmp texts
ascending d texts below = sorted_from_all_adjacent text_total texts d (λ k within. below k d within)

-- so in whatever order they stand, no two are the same, and their messages are not
pub once : (ms : List Message) (texts sorted : List Text) → map (λ t. t.now) texts ≡ map wire ms → IsPermutation texts sorted
    → IsStrictlySortedBy text_cmp sorted → AllPairs (λ x y. x ≢ y) ms
once ms texts sorted are moved rises i j d less within same =
    let nothing : Text = record { ref_ptr = (0, 0); now = [] } in
    let distinct : IsDistinct (eq_by_cmp text_cmp) texts =
    IsDistinct-IsPermutation (eq_by_cmp text_cmp) (eq_by_cmp_equiv text_total).symm sorted texts (IsPermutation-sym texts sorted moved)
    (IsDistinct-from_sorted text_cmp sorted rises) in
    let long : length texts ≡ length ms = sym (length-map texts (λ (t : Text). t.now)) ∙ ap (λ (l : List (List ℕ)). length l) are ∙ length-map ms wire in
    let of : (k : ℕ) → k < length ms → (get_or texts k nothing).now ≡ wire (get_or ms k d) = λ k below.
    sym (get_or-map (λ (t : Text). t.now) texts k nothing [] (omega (arith, long, below)))
    ∙ ap (λ (l : List (List ℕ)). get_or l k []) are ∙ get_or-map wire ms k d [] below in
    let a = get_or texts i nothing in
    let b = get_or texts j nothing in
    let alike : a.now ≡ b.now = of i (omega (arith, less, within)) ∙ ap wire same ∙ sym (of j within) in
    let tie : eq_by_cmp text_cmp a b ≡ true = is_eq-slice_cmp a.now b.now ∙ (bytes_eq-Decides a.now b.now).1 alike in
    true≢false (sym tie ∙ apart_from_distinct (eq_by_cmp text_cmp) texts i j nothing distinct less (omega (arith, long, within)))
