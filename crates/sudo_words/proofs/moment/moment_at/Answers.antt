use Rattle.std.proofs.Common.{◌≡◌, ℕ, ◌<◌, ◌^◌, ◌∙◌, refl, sym, ap, arith, Some, ℤ, pos, negsuc}
use Rattle.std.proofs.Common.{nat_abs, FitsSigned, w32, w64, to_z, of_z, to_z-of_z, ◌+ℤ◌, ◌-ℤ◌, ◌*ℤ◌}
use Rattle.std.specs.Int.{FitsUnsignedBits}
use Rattle.std.proofs.lemmas.Option.{IfSome_then}
use Rattle.jiff_core.proofs.SignedLemmas.{signed_arith}
use Rattle.sudo_words.proofs.moment.moment_at.Goals as goal

abbrev i64 : ℤ → ℤ
i64 z = to_z w64 (of_z w64 z)

-- no sum or product leaves the type
sum_is : (day : ℤ) (seconds : ℕ) (offset a b z : ℤ) → a ≡ day → b ≡ pos seconds → z ≡ offset → FitsSigned w32 day → seconds < 2 ^ 32 → FitsSigned w32 offset
    → i64 (i64 (i64 (pos 86_400 *ℤ i64 a) +ℤ i64 b) -ℤ i64 (pos 60 *ℤ i64 z)) ≡ pos 86_400 *ℤ day +ℤ pos seconds -ℤ pos 60 *ℤ offset
sum_is day seconds offset a b z a_is b_is z_is d s o =
    let day_fits : FitsSigned w64 day = omega (arith, signed_arith, d) in
    let seconds_fit : FitsSigned w64 (pos seconds) = omega (arith, signed_arith, s) in
    let offset_fits : FitsSigned w64 offset = omega (arith, signed_arith, o) in
    let days_fit : FitsSigned w64 (pos 86_400 *ℤ day) = omega (arith, signed_arith, d) in
    let offsets_fit : FitsSigned w64 (pos 60 *ℤ offset) = omega (arith, signed_arith, o) in
    let ahead_fits : FitsSigned w64 (pos 86_400 *ℤ day +ℤ pos seconds) = omega (arith, signed_arith, d, s) in
    let all_fits : FitsSigned w64 (pos 86_400 *ℤ day +ℤ pos seconds -ℤ pos 60 *ℤ offset) = omega (arith, signed_arith, d, s, o) in
    rw (
      a_is,
      b_is,
      z_is,
      to_z-of_z day_fits,
      to_z-of_z seconds_fit,
      to_z-of_z offset_fits,
      to_z-of_z days_fit,
      to_z-of_z offsets_fit,
      to_z-of_z ahead_fits,
      to_z-of_z all_fits,
    ) refl

natural : (z : ℤ) (n : ℕ) → FitsUnsignedBits 64 z → n ≡ nat_abs z → pos n ≡ z
natural (pos m) n h e = ap pos e
natural (negsuc m) n h e = absurd h

pub returns-in-Err-clause-only : goal.returns-in-Err-clause-only
returns-in-Err-clause-only c = λ t h e.
    let day : c.from.result ≡ c.args.day = c.from.ensures ∙ to_z-of_z c.ranges.day in
    let offset : c.from-3.result ≡ c.args.offset = c.from-3.ensures ∙ to_z-of_z c.ranges.offset in
    let sum = sum_is c.args.day c.args.seconds c.args.offset c.from.result c.from-2.result
    c.from-3.result day c.from-2.ensures offset c.ranges.day c.ranges.seconds.fits c.ranges.offset in
    let below : t < 2 ^ 64 = omega (arith, h) in
    absurd (c.in-Err.ensures (rw (sum ∙ sym e) below))

pub returns-in-Ok-clause-found : goal.returns-in-Ok-clause-found
returns-in-Ok-clause-found c =
    let day : c.from.result ≡ c.args.day = c.from.ensures ∙ to_z-of_z c.ranges.day in
    let offset : c.from-3.result ≡ c.args.offset = c.from-3.ensures ∙ to_z-of_z c.ranges.offset in
    let sum = sum_is c.args.day c.args.seconds c.args.offset c.from.result c.from-2.result
    c.from-3.result day c.from-2.ensures offset c.ranges.day c.ranges.seconds.fits c.ranges.offset in
    let is = natural _ c.in-Ok.secs c.in-Ok.ensures.0 c.in-Ok.ensures.1 in
    IfSome_then c.from_secs.result c.from_secs.ensures.found (λ t found. (rw found.0 found.1, ap pos found.0 ∙ is ∙ sum))

pub returns-in-Ok-clause-only : goal.returns-in-Ok-clause-only
returns-in-Ok-clause-only c = λ t h e.
    let day : c.from.result ≡ c.args.day = c.from.ensures ∙ to_z-of_z c.ranges.day in
    let offset : c.from-3.result ≡ c.args.offset = c.from-3.ensures ∙ to_z-of_z c.ranges.offset in
    let sum = sum_is c.args.day c.args.seconds c.args.offset c.from.result c.from-2.result
    c.from-3.result day c.from-2.ensures offset c.ranges.day c.ranges.seconds.fits c.ranges.offset in
    let is = natural _ c.in-Ok.secs c.in-Ok.ensures.0 c.in-Ok.ensures.1 in
    let same : pos c.in-Ok.secs ≡ pos t = is ∙ sum ∙ sym e in
    let number : c.in-Ok.secs ≡ t = cc in
    c.from_secs.ensures.only (rw number h) ∙ ap Some number
