-- No name of a user, target or host begins with an upper-case letter; `ALL` and all aliases do.
use Rattle.std.specs.Prelude.{◌≡◌, ℕ, ◌<◌, ◌==◌, true, false, not, ◌||◌}
use Rattle.std.specs.Prelude.{nat_le, List, [], ◌∷◌, length, refl}
use Rattle.std.specs.List.{list_all}
use Rattle.std.proofs.Common.{sym, subst, lit≤, lit<, inl, inr}
use Rattle.std.proofs.Math.Nat.{le_trans}
use Rattle.std.proofs.lemmas.Bool.{and_parts, or_cases, leb-true, lt-leb, eqb-true, and_right}
use Rattle.sudo_words.specs.Word.{is_name, is_name_shape, is_host_name, is_label, is_keyword}
use Rattle.sudo_words.specs.Word.{is_lower, is_upper, is_name_byte, is_host_byte}
use Rattle.sudo_syntax.specs.private.Fronts.{begins_upper}

pub high_no_upper : (b : ℕ) → 90 < b → is_upper b ≡ false
high_no_upper b h = and_right (nat_le 65 b) (nat_le b 90) (lt-leb b 90 h)

pub lower_no_upper : (b : ℕ) → is_lower b ≡ true → is_upper b ≡ false
lower_no_upper b h = high_no_upper b
    (le_trans (lit≤ tt) (leb-true 97 b (and_parts (nat_le 97 b) (nat_le b 122) h).0))

pub name_low : (w : List ℕ) → is_name w ≡ true → begins_upper w ≡ false
name_low [] h = refl
name_low (b ∷ bs) h =
    let front = (and_parts _ (nat_le (length (b ∷ bs)) 32)
    (and_parts (is_name_shape (b ∷ bs)) (not (is_keyword (b ∷ bs))) h).0).0 in
    let first = (and_parts (is_lower b || (b == 95)) (list_all is_name_byte bs) front).0 in
    elim (or_cases (is_lower b) (b == 95) first) [
      | inl low ↦ lower_no_upper b low
      | inr line ↦ high_no_upper b (subst (λ (x : ℕ). 90 < x) (sym (eqb-true b 95 line)) (lit< tt))
    ]

pub host_low : (w : List ℕ) → is_host_name w ≡ true → begins_upper w ≡ false
host_low [] h = refl
host_low (b ∷ bs) h =
    let front = (and_parts _ (nat_le (length (b ∷ bs)) 32)
    (and_parts (is_label (b ∷ bs)) (not (is_keyword (b ∷ bs))) h).0).0 in
    lower_no_upper b (and_parts (is_lower b) (list_all is_host_byte bs) front).0
