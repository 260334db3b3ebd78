-- What is known of a moment's canonical text.
use Rattle.std.proofs.Common.{◌≡◌, ℕ, ◌<◌, List, length, get_or, ap, arith, ◌∙◌, codes, lit≤, refl, subst}
use Rattle.sudo_words.specs.Moment.{IsStamp, date_from_month, date_from_year, date_of, stamp}
use Rattle.sudo_words.proofs.MomentLemmas.{stamp_is, stamp_only, stamp_length}

pub length_stamped : (text : List ℕ) (t : ℕ) → IsStamp text t → length text ≡ 15
length_stamped text t h = ap length (stamp_only text t h) ∙ stamp_length t

-- the last of its 15 bytes is `Z`, not a digit of an offset
pub offset_not_stamped : (text : List ℕ) (t : ℕ) → get_or text 14 0 < 90 → IsStamp text t → ⊥
offset_not_stamped text t below h =
    let last : get_or text 14 0 ≡ 90 = ap (λ (l : List ℕ). get_or l 14 0) (stamp_only text t h) in
    omega (arith, below, last)

half_past_nine : stamp 1_767_605_400 ≡ codes "20260105093000Z"
unfolding date_of date_from_year date_from_month
half_past_nine = refl

-- `20260105093000Z`
pub stamped_at_half_past_nine : IsStamp (codes "20260105093000Z") 1_767_605_400
stamped_at_half_past_nine = subst (λ (text : List ℕ). IsStamp text 1_767_605_400) half_past_nine (stamp_is 1_767_605_400 (lit≤ tt))
