use Rattle.std.proofs.Common.{◌≡◌, ℕ, ◌-◌, ◌≤◌, true, false, not, List, length, get_or, refl, sym, ap, ◌∙◌, arith}
use Rattle.std.specs.Str.{bytes_eq}
use Rattle.std.specs.Cmp.Lexicographic.{pointwise}
use Rattle.std.proofs.lemmas.Bool.{both_ways, false_from_ne_true, ltb-false, not-true}
use Rattle.std.proofs.lemmas.List.{get_or_default}
use Rattle.std.proofs.lemmas.Slice.Eq.{bytes_eq-Decides, slice_eq-Decides}
use Rattle.grants.proofs.within.same_args.Goals as goal

-- lists with different last elements differ
ends_differ : (a b : List (List ℕ)) (x y : List ℕ) → 1 ≤ length a → x ≡ get_or a (length a - 1) x → y ≡ get_or b (length b - 1) y → not (bytes_eq x y) ≡ true
    → pointwise bytes_eq a b ≡ false
ends_differ a b x y some ends others differ =
    false_from_ne_true (pointwise bytes_eq a b) (λ e.
    let same : a ≡ b = (slice_eq-Decides bytes_eq-Decides a b (pointwise bytes_eq a b) refl).0 e in
    let same_end : x ≡ y = ends ∙ get_or_default a (length a - 1) x y (omega arith) ∙ ap (λ (z : List (List ℕ)). get_or z (length z - 1) y) same ∙ sym others in
    both_ways (bytes_eq x y) (not-true (bytes_eq x y) differ) ((bytes_eq-Decides x y).1 same_end))

pub returns-in-len1-up-len1-up : goal.returns-in-len1-up-len1-up
returns-in-len1-up-len1-up c =
    let some : 1 ≤ length c.args.args.now = omega (arith, ltb-false) in
    sym (ends_differ c.args.args.now c.args.wanted.now c.last-item.result c.other-item.result some c.last-item.is c.other-item.is (sym c.if-ne.ensures))
