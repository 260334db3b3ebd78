-- Products that saturate at the greatest number.
use Rattle.std.proofs.Common.{◌≡◌, ℕ, ◌*◌, ◌≤◌, zero, suc, min, ap, ◌∙◌, inl, inr, arith}
use Rattle.std.proofs.lemmas.Bool.{cases_lt}
use Rattle.std.proofs.lemmas.Nat.{mul-le}

at_most : (x y most : ℕ) → most ≤ x → min (most * y) most ≡ min (x * y) most
at_most x zero most high = omega arith
at_most x (suc k) most high =
    let more : most * 1 ≤ most * suc k = mul-le most 1 most (suc k) (omega arith) (omega arith) in
    let also : most * 1 ≤ x * suc k = mul-le most 1 x (suc k) high (omega arith) in
    omega arith

pub saturated : (x y most : ℕ) → min (min x most * y) most ≡ min (x * y) most
saturated x y most =
    elim (cases_lt x most) [
      | inl low ↦ let same : min x most ≡ x = omega arith in ap (λ (z : ℕ). min (z * y) most) same
      | inr high ↦ let same : min x most ≡ most = omega arith in ap (λ (z : ℕ). min (z * y) most) same ∙ at_most x y most (omega arith)
    ]
