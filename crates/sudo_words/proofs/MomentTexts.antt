-- A text spells one moment, and its spelling of 15 bytes that ends in `Z` is the canonical one.
use Rattle.std.proofs.Common.{◌≡◌, ℕ, ◌+◌, ◌-◌, ◌*◌, ◌/◌, ◌%◌, ◌<◌, ◌∙◌, List, [], ◌∷◌, ◌++◌, length, get_or, drop, refl, sym}
use Rattle.std.proofs.Common.{inl, inr, lit≤, arith, ℤ, pos, negsuc, neg_ℤ, ◌+ℤ◌, ◌-ℤ◌, ◌*ℤ◌, append_assoc, length-append, ap}
use Rattle.std.specs.Prelude.{codes}
use Rattle.jiff_core.specs.Calendar.{days_from_civil}
use Rattle.jiff_core.proofs.CalendarLemmas.{days_in_month_bounds}
use Rattle.jiff_core.proofs.SignedLemmas.{signed_arith}
use Rattle.sudo_words.specs.Moment.{IsClockText, IsDateText, IsDistance, IsOffsetText, IsStamp, SpellsMoment, four, hour, minute, second, two}
use Rattle.sudo_words.proofs.MomentLemmas.{clock_in_day, cut_date, ends, same_parts, utc_end}

-- the digits at the front of a text say which number they spell, and what stands behind them
two_front : (m n : ℕ) (r s : List ℕ) → m < 100 → n < 100 → two m ++ r ≡ two n ++ s → (m ≡ n) × (r ≡ s)
two_front m n r s below low e =
    let same : (48 + m / 10 ≡ 48 + n / 10) × (48 + m % 10 ≡ 48 + n % 10) × (r ≡ s) = (cc, cc, cc) in
    (omega (arith, same.0, same.1), same.2)

four_front : (m n : ℕ) (r s : List ℕ) → m < 10_000 → n < 10_000 → four m ++ r ≡ four n ++ s → (m ≡ n) × (r ≡ s)
four_front m n r s below low e =
    let century = two_front (m / 100) (n / 100) (two (m % 100) ++ r) (two (n % 100) ++ s) (omega arith) (omega arith) e in
    let in_century = two_front (m % 100) (n % 100) r s (omega arith) (omega arith) century.1 in
    (omega (arith, century.0, in_century.0), in_century.1)

-- a date's text gives one day
pub one_day : (text : List ℕ) (m n : ℤ) → IsDateText text m → IsDateText text n → m ≡ n
one_day text m n a b =
    let long = days_in_month_bounds (pos a.year) a.month in
    let long_too = days_in_month_bounds (pos b.year) b.month in
    let year = four_front a.year b.year (two a.month ++ two a.day_of_month) (two b.month ++ two b.day_of_month)
    (omega (arith, signed_arith, a.date.0)) (omega (arith, signed_arith, b.date.0)) (sym a.text_is ∙ b.text_is) in
    let month = two_front a.month b.month (two a.day_of_month) (two b.day_of_month) (omega (arith, a.date.1)) (omega (arith, b.date.1)) year.1 in
    let day = two_front a.day_of_month b.day_of_month [] [] (omega (arith, a.date.2, long)) (omega (arith, b.date.2, long_too)) month.1 in
    let same : days_from_civil (pos a.year) a.month a.day_of_month ≡ days_from_civil (pos b.year) b.month b.day_of_month = rw (year.0, month.0, day.0) refl in
    sym a.number ∙ same ∙ b.number

-- two numbers in two digits each, as the front of a text
pair_front : (h k m n : ℕ) (r s : List ℕ) → h < 100 → k < 100 → m < 100 → n < 100 → two h ++ two m ++ r ≡ two k ++ two n ++ s → (h ≡ k) × (m ≡ n) × (r ≡ s)
pair_front h k m n r s a b c d e =
    let front = two_front h k (two m ++ r) (two n ++ s) a b e in
    let next = two_front m n r s c d front.1 in
    (front.0, next.0, next.1)

-- the same time of day
one_time : (s t : ℕ) → s < 86_400 → t < 86_400 → hour s ≡ hour t → minute s ≡ minute t → second s ≡ second t → s ≡ t
one_time s t a b h m z = omega arith

-- a time of day's text gives one time of day
pub one_clock : (text : List ℕ) (s t : ℕ) → IsClockText text s → IsClockText text t → s ≡ t
one_clock text s t (low, inl a) (high, inl b) =
    let front = pair_front (hour s) (hour t) (minute s) (minute t) (two (second s))
    (two (second t)) (omega arith) (omega arith) (omega arith) (omega arith) (sym a ∙ b) in
    let last = two_front (second s) (second t) [] [] (omega arith) (omega arith) front.2 in
    one_time s t low high front.0 front.1 last.0
one_clock text s t (low, inl a) (high, inr (inl b)) = let z = sym a ∙ b.0 in absurd cc
one_clock text s t (low, inl a) (high, inr (inr b)) = let z = sym a ∙ b.0 in absurd cc
one_clock text s t (low, inr (inl a)) (high, inl b) = let z = sym a.0 ∙ b in absurd cc
one_clock text s t (low, inr (inl a)) (high, inr (inl b)) =
    let front = pair_front (hour s) (hour t) (minute s) (minute t) [] [] (omega arith) (omega arith) (omega arith) (omega arith) (sym a.0 ∙ b.0) in
    one_time s t low high front.0 front.1 (a.1 ∙ sym b.1)
one_clock text s t (low, inr (inl a)) (high, inr (inr b)) = let z = sym a.0 ∙ b.0 in absurd cc
one_clock text s t (low, inr (inr a)) (high, inl b) = let z = sym a.0 ∙ b in absurd cc
one_clock text s t (low, inr (inr a)) (high, inr (inl b)) = let z = sym a.0 ∙ b.0 in absurd cc
one_clock text s t (low, inr (inr a)) (high, inr (inr b)) =
    let front = two_front (hour s) (hour t) [] [] (omega arith) (omega arith) (sym a.0 ∙ b.0) in
    one_time s t low high front.0 (a.1 ∙ sym b.1) (a.2 ∙ sym b.2)

-- `hhmm` is one number of minutes
pub one_distance : (text : List ℕ) (m n : ℕ) → IsDistance text m → IsDistance text n → m ≡ n
one_distance text m n a b =
    let both = pair_front (m / 60) (n / 60) (m % 60) (n % 60) [] [] (omega (arith, a.0)) (omega (arith, b.0)) (omega arith) (omega arith) (sym a.1 ∙ b.1) in
    omega (arith, both.0, both.1)

-- what ends a time gives one offset
pub heads_differ : (end a b : List ℕ) (m n : ℕ) → {P : Type 0} → m < n → end ≡ m ∷ a → end ≡ n ∷ b → P
heads_differ end a b m n low e f =
    let same : m ≡ n = ap (λ (l : List ℕ). get_or l 0 0) (sym e ∙ f) in
    absurd (omega arith)

same_distance : (sign : ℕ) (end a b : List ℕ) (m n : ℕ) → end ≡ sign ∷ a → end ≡ sign ∷ b → IsDistance a m → IsDistance b n → m ≡ n
same_distance sign end a b m n e f h k =
    let z = sym e ∙ f in
    let digits : a ≡ b = cc in
    one_distance b m n (rw digits at h) k

pub one_offset : (end : List ℕ) (o p : ℤ) → IsOffsetText end o → IsOffsetText end p → o ≡ p
one_offset end o p (inl a) (inl b) = a.1 ∙ sym b.1
one_offset end o p (inl a) (inr (inl b)) = heads_differ end b.0 [] 43 90 (lit≤ tt) b.2 a.0
one_offset end o p (inl a) (inr (inr b)) = heads_differ end b.0 [] 45 90 (lit≤ tt) b.2 a.0
one_offset end o p (inr (inl a)) (inl b) = heads_differ end a.0 [] 43 90 (lit≤ tt) a.2 b.0
one_offset end o p (inr (inl a)) (inr (inl b)) = a.4 ∙ ap pos (same_distance 43 end a.0 b.0 a.1 b.1 a.2 b.2 a.3 b.3) ∙ sym b.4
one_offset end o p (inr (inl a)) (inr (inr b)) = heads_differ end a.0 b.0 43 45 (lit≤ tt) a.2 b.2
one_offset end o p (inr (inr a)) (inl b) = heads_differ end a.0 [] 45 90 (lit≤ tt) a.2 b.0
one_offset end o p (inr (inr a)) (inr (inl b)) = heads_differ end b.0 a.0 43 45 (lit≤ tt) b.2 a.2
one_offset end o p (inr (inr a)) (inr (inr b)) = a.4 ∙ ap (λ (n : ℕ). neg_ℤ (pos n)) (same_distance 45 end a.0 b.0 a.1 b.1 a.2 b.2 a.3 b.3) ∙ sym b.4

-- a text has one end that says an offset
pub one_end : (text a x b y : List ℕ) (o p : ℤ) → text ≡ a ++ x → IsOffsetText x o → text ≡ b ++ y → IsOffsetText y p → (a ≡ b) × (x ≡ y)
one_end text a x b y o p e h f k =
    let len : length a ≡ length b = elim (ends text a x o e h) [
      | inl u ↦ elim (ends text b y p f k) [
        | inl v ↦ omega (arith, u.length_is, v.length_is)
        | inr v ↦
            let at : length a ≡ length b + 4 = omega (arith, u.length_is, v.length_is) in
            absurd (omega (arith, v.last_is, u.last_is, ap (λ (n : ℕ). get_or text n 0) at))
      ]
      | inr u ↦ elim (ends text b y p f k) [
        | inl v ↦
            let at : length b ≡ length a + 4 = omega (arith, u.length_is, v.length_is) in
            absurd (omega (arith, v.last_is, u.last_is, ap (λ (n : ℕ). get_or text n 0) at))
        | inr v ↦ omega (arith, u.length_is, v.length_is)
      ]
    ] in
    same_parts text a x b y e f len

-- so whatever a text spells has the day, the seconds and the offset of its parts
pub spelled_equation : (text date clock zone : List ℕ) (day : ℤ) (seconds : ℕ) (offset : ℤ) (t : ℕ) → text ≡ date ++ clock ++ zone → IsDateText date day
    → IsClockText clock seconds → IsOffsetText zone offset → SpellsMoment text t → pos t ≡ pos 86_400 *ℤ day +ℤ pos seconds -ℤ pos 60 *ℤ offset
spelled_equation text date clock zone day seconds offset t e date_is clock_is zone_is s =
    let x = cut_date text date clock zone day e date_is in
    let y = cut_date text s.date s.clock s.zone s.day s.text_is s.date_is in
    let parts = one_end (drop 8 text) clock zone s.clock s.zone offset s.offset x.1 zone_is y.1 s.zone_is in
    let same_day : day ≡ s.day = one_day date day s.day date_is (rw (sym y.0 ∙ x.0) at s.date_is) in
    let same_seconds : seconds ≡ s.seconds = one_clock clock seconds s.seconds clock_is (rw (sym parts.0) at s.clock_is) in
    let same_offset : offset ≡ s.offset = one_offset zone offset s.offset zone_is (rw (sym parts.1) at s.zone_is) in
    rw (same_day, same_seconds, same_offset) s.moment_is

pub one_spelled : (text : List ℕ) (s t : ℕ) → SpellsMoment text s → SpellsMoment text t → s ≡ t
one_spelled text s t a b =
    let same : pos s ≡ pos t =
    a.moment_is ∙ sym (spelled_equation text a.date a.clock a.zone a.day a.seconds a.offset t a.text_is a.date_is a.clock_is a.zone_is b) in
    cc

-- in UTC a moment's day and the seconds into it are the day and the seconds of its text
utc_parts : (t : ℕ) (day : ℤ) (seconds : ℕ) → seconds < 86_400
    → pos t ≡ pos 86_400 *ℤ day +ℤ pos seconds -ℤ pos 60 *ℤ pos 0 → (day ≡ pos (t / 86_400)) × (seconds ≡ t % 86_400)
utc_parts t (pos n) seconds h e =
    let same : t ≡ 86_400 * n + seconds = omega (arith, signed_arith, e) in
    let days : n ≡ t / 86_400 = omega (arith, same) in
    (ap pos days, omega (arith, same))
utc_parts t (negsuc n) seconds h e = absurd (omega (arith, signed_arith, e))

-- a time of day of six bytes has its minutes and its seconds
whole_clock : (text : List ℕ) (seconds : ℕ) → IsClockText text seconds → length text ≡ 6
    → text ≡ two (hour seconds) ++ two (minute seconds) ++ two (second seconds)
whole_clock text seconds (low, inl full) len = full
whole_clock text seconds (low, inr (inl short)) len = absurd (omega (arith, len, ap length short.0))
whole_clock text seconds (low, inr (inr shortest)) len = absurd (omega (arith, len, ap length shortest.0))

-- a spelling of 15 bytes that ends in `Z` has its minutes and its seconds, so it is the canonical text
pub stamp_from_length : (text : List ℕ) (t : ℕ) → SpellsMoment text t → length text ≡ 15 → get_or text 14 0 ≡ 90 → IsStamp text t
stamp_from_length text t s len last =
    let place : length text - 1 ≡ 14 = omega (arith, len) in
    let utc = utc_end text (s.date ++ s.clock) s.zone s.offset s.text_is s.zone_is (rw place last) in
    let date : length s.date ≡ 8 = ap length s.date_is.text_is in
    let end : length s.zone ≡ 1 = ap length utc.0 in
    let six : length s.clock ≡ 6 = omega (arith, len, ap length s.text_is, length-append (s.date ++ s.clock) s.zone, length-append s.date s.clock, date, end) in
    let parts = utc_parts t s.day s.seconds s.clock_is.0 (rw utc.1 at s.moment_is) in
    let clock =
    whole_clock s.clock s.seconds s.clock_is six ∙ ap (λ (n : ℕ). two (hour n) ++ two (minute n) ++ two (second n)) parts.1 ∙ sym (clock_in_day t) in
    let whole : text ≡ s.date ++ (two (hour t) ++ two (minute t) ++ two (second t)) ++ codes "Z" = rw (clock, utc.0) at s.text_is in
    record { moment = s.moment; date = s.date; text_is = whole ∙ sym (simp append_assoc); date_is = rw parts.0 at s.date_is }
