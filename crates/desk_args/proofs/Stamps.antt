-- What is known of a moment's canonical text.
use Rattle.std.proofs.Common.{◌≡◌, ℕ, List, codes, lit≤, refl, subst}
use Rattle.sudo_words.specs.Moment.{IsStamp, date_from_month, date_from_year, date_of, stamp}
use Rattle.sudo_words.proofs.MomentLemmas.{stamp_is}

half_past_nine : stamp 1_767_605_400 ≡ codes "20260105093000Z"
unfolding date_of date_from_year date_from_month
half_past_nine = refl

-- `20260105093000Z`
pub stamped_at_half_past_nine : IsStamp (codes "20260105093000Z") 1_767_605_400
stamped_at_half_past_nine = subst (λ (text : List ℕ). IsStamp text 1_767_605_400) half_past_nine (stamp_is 1_767_605_400 (lit≤ tt))
