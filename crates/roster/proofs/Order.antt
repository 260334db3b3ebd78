-- The first of some words in byte order.
use Rattle.std.proofs.Common.{◌≡◌, ◌<◌, ◌+◌, ℕ, ◌∙◌, Bool, true, false, not, ◌&&◌, List, [], ◌∷◌}
use Rattle.std.proofs.Common.{length, take, get_or, Ordering, Less, Equal, Greater, refl, sym, ap, ap₂}
use Rattle.std.specs.List.{list_all}
use Rattle.std.specs.Str.{bytes_eq}
use Rattle.std.proofs.lemmas.Slice.Eq.{bytes_eq-Decides}
use Rattle.std.specs.Cmp.Lexicographic.{slice_cmp, nat_list_cmp_total}
use Rattle.std.specs.Ordering.{nat_cmp, is_lt, ordering_reverse}
use Rattle.std.proofs.lemmas.Bool.{and_parts, false_from_ne_true, true≢false, not-true, not_from_false}
use Rattle.std.proofs.lemmas.List.Folds.{list_all_more, list_any_at}
use Rattle.roster.specs.Rules.{is_among}
use Rattle.sudo_words.specs.Lists.{is_before}

less : (r : Ordering) → is_lt r ≡ true → r ≡ Less
less Less e = refl
less Equal e = absurd (true≢false (sym e))
less Greater e = absurd (true≢false (sym e))

not_less : (r : Ordering) → r ≡ ordering_reverse r → is_lt r ≡ false
not_less Less e = absurd cc
not_less Equal e = refl
not_less Greater e = refl

before_itself : (w : List ℕ) → is_before w w ≡ false
before_itself w = not_less (slice_cmp nat_cmp w w) (nat_list_cmp_total.antisymm w w)

before_then : (a b c : List ℕ) → is_before a b ≡ true → is_before b c ≡ true → is_before a c ≡ true
before_then a b c x y = ap is_lt (nat_list_cmp_total.trans a b c (less (slice_cmp nat_cmp a b) x) (less (slice_cmp nat_cmp b c) y))

all_weaker : {X : Type 0} (p q : X → Bool) → ((x : X) → p x ≡ true → q x ≡ true) → (xs : List X) → list_all p xs ≡ true → list_all q xs ≡ true
all_weaker p q weaker [] e = refl
all_weaker p q weaker (x ∷ xs) e =
    let parts = and_parts (p x) (list_all p xs) e in
    ap₂ (λ a b. a && b) (weaker x parts.0) (all_weaker p q weaker xs parts.1)

-- the word at a place is among the words
pub among_at : (words : List (List ℕ)) (i : ℕ) (w : List ℕ) → i < length words → w ≡ get_or words i w → is_among words w ≡ true
among_at words i w l is = list_any_at (λ v. bytes_eq v w) words i w l ((bytes_eq-Decides (get_or words i w) w).1 (sym is))

-- none of the words so far comes before one that comes before their first
pub first_changes : (words : List (List ℕ)) (i : ℕ) (first w : List ℕ) → i < length words → w ≡ get_or words i w → is_before w first ≡ true
    → list_all (λ v. not (is_before v first)) (take i words) ≡ true → list_all (λ v. not (is_before v w)) (take (i + 1) words) ≡ true
first_changes words i first w l is lower so_far =
    let still = all_weaker (λ v. not (is_before v first)) (λ v. not (is_before v w))
    (λ v e. not_from_false (is_before v w)
    (false_from_ne_true (is_before v w) (λ b. true≢false (sym (before_then v w first b lower) ∙ not-true (is_before v first) e)))) (take i words) so_far in
    let last : not (is_before (get_or words i w) w) ≡ true = ap (λ x. not (is_before x w)) (sym is) ∙ ap not (before_itself w) in
    list_all_more (λ v. not (is_before v w)) words i w l ∙ ap₂ (λ a b. a && b) still last

pub first_stays : (words : List (List ℕ)) (i : ℕ) (first w : List ℕ) → i < length words → w ≡ get_or words i w → is_before w first ≡ false
    → list_all (λ v. not (is_before v first)) (take i words) ≡ true → list_all (λ v. not (is_before v first)) (take (i + 1) words) ≡ true
first_stays words i first w l is not_lower so_far =
    let last : not (is_before (get_or words i w) first) ≡ true = ap (λ x. not (is_before x first)) (sym is) ∙ ap not not_lower in
    list_all_more (λ v. not (is_before v first)) words i w l ∙ ap₂ (λ a b. a && b) so_far last
