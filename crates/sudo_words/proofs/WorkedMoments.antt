-- Worked texts of moments, by clocks that are ahead of UTC or behind it.
use Rattle.std.proofs.Common.{◌≡◌, ℕ, ◌+◌, ◌/◌, ◌%◌, ◌<◌, ◌∙◌, List, [], ◌++◌, length, get_or, drop, refl}
use Rattle.std.proofs.Common.{inl, inr, lit<, lit≤, arith, ℤ, pos, negsuc, neg_ℤ, ap, ◌+ℤ◌, ◌-ℤ◌, ◌*ℤ◌}
use Rattle.std.specs.Prelude.{codes}
use Rattle.std.proofs.lemmas.List.{drop_at}
use Rattle.jiff_core.proofs.CalendarLemmas.{day_count-epoch, day_count-last_of_year, day_count-next_year, days_from_civil-day_count}
use Rattle.jiff_core.proofs.SignedLemmas.{signed_arith}
use Rattle.sudo_words.specs.Moment.{IsClockText, IsDateText, IsMoment, IsOffsetText, SpellsMoment, date_from_month, date_from_year, date_of}
use Rattle.sudo_words.proofs.MomentLemmas.{date_text_is, ends}
use Rattle.sudo_words.proofs.MomentTexts.{heads_differ, spelled_equation}

-- ---- days, times of day and offsets

first_day : IsDateText (codes "19700101") (pos 0)
unfolding date_of date_from_year date_from_month
first_day = date_text_is 0 (lit≤ tt)

five_january : IsDateText (codes "20260105") (pos 20_458)
unfolding date_of date_from_year date_from_month
five_january = date_text_is 20_458 (lit≤ tt)

last_day : IsDateText (codes "20991231") (pos 47_481)
unfolding date_of date_from_year date_from_month
last_day = date_text_is 47_481 (lit≤ tt)

-- the day before the first has number -1
day_before : IsDateText (codes "19691231") (negsuc 0)
day_before =
    let count = days_from_civil-day_count (pos 1969) 12 31 in
    let next = day_count-next_year (pos 1969) (pos 1970) (omega (arith, signed_arith)) refl in
    let last = day_count-last_of_year (pos 1969) in
    record {
      year = 1969;
      month = 12;
      day_of_month = 31;
      date = ((omega (arith, signed_arith), omega (arith, signed_arith)), (lit≤ tt, lit≤ tt), (lit≤ tt, lit≤ tt));
      number = omega (arith, signed_arith, count, next, last, day_count-epoch);
      text_is = refl;
    }

hour_ahead : IsOffsetText (codes "+0100") (pos 60)
hour_ahead = inr (inl (codes "0100", 60, refl, (lit< tt, refl), refl))

hour_behind : IsOffsetText (codes "-0100") (neg_ℤ (pos 60))
hour_behind = inr (inr (codes "0100", 60, refl, (lit< tt, refl), refl))

five_hours_behind : IsOffsetText (codes "-0500") (neg_ℤ (pos 300))
five_hours_behind = inr (inr (codes "0500", 300, refl, (lit< tt, refl), refl))

minute_behind : IsOffsetText (codes "-0001") (neg_ℤ (pos 1))
minute_behind = inr (inr (codes "0001", 1, refl, (lit< tt, refl), refl))

none_ahead : IsOffsetText (codes "+0000") (pos 0)
none_ahead = inr (inl (codes "0000", 0, refl, (lit< tt, refl), refl))

none_behind : IsOffsetText (codes "-0000") (pos 0)
none_behind = inr (inr (codes "0000", 0, refl, (lit< tt, refl), refl))

-- ---- texts that spell a moment

spelled : (text date clock zone : List ℕ) (day : ℤ) (seconds : ℕ) (offset : ℤ) (t : ℕ) → text ≡ date ++ clock ++ zone → IsMoment t → IsDateText date day
    → IsClockText clock seconds → IsOffsetText zone offset → pos t ≡ pos 86_400 *ℤ day +ℤ pos seconds -ℤ pos 60 *ℤ offset → SpellsMoment text t
spelled text date clock zone day seconds offset t e moment date_is clock_is zone_is equation = record {
  moment = moment;
  date = date;
  clock = clock;
  zone = zone;
  day = day;
  seconds = seconds;
  offset = offset;
  text_is = e;
  date_is = date_is;
  clock_is = clock_is;
  zone_is = zone_is;
  moment_is = equation;
}

pub ahead : SpellsMoment (codes "20260105100000+0100") 1_767_603_600
ahead = spelled _ (codes "20260105") (codes "100000") (codes "+0100") _ 36_000 _ 1_767_603_600 refl (lit≤ tt) five_january (lit< tt, inl refl) hour_ahead refl

pub behind : SpellsMoment (codes "2026010504-0500") 1_767_603_600
behind = spelled _ (codes "20260105") (codes "04") (codes "-0500") _ 14_400 _ 1_767_603_600 refl
    (lit≤ tt) five_january (lit< tt, inr (inr (refl, refl, refl))) five_hours_behind refl

pub day_before_first : SpellsMoment (codes "19691231230000-0100") 0
day_before_first = spelled _ (codes "19691231") (codes "230000") (codes "-0100") _ 82_800 _ 0 refl (lit≤ tt) day_before (lit< tt, inl refl) hour_behind refl

pub last_with_plus : SpellsMoment (codes "20991231235959+0000") 4_102_444_799
last_with_plus =
    spelled _ (codes "20991231") (codes "235959") (codes "+0000") _ 86_399 _ 4_102_444_799 refl (lit≤ tt) last_day (lit< tt, inl refl) none_ahead refl

pub last_with_minus : SpellsMoment (codes "20991231235959-0000") 4_102_444_799
last_with_minus =
    spelled _ (codes "20991231") (codes "235959") (codes "-0000") _ 86_399 _ 4_102_444_799 refl (lit≤ tt) last_day (lit< tt, inl refl) none_behind refl

-- ---- texts that spell none

pub before_first : (t : ℕ) → SpellsMoment (codes "19700101000000+0100") t → ⊥
before_first t s =
    let equation = spelled_equation (codes "19700101000000+0100") (codes "19700101") (codes "000000")
    (codes "+0100") (pos 0) 0 (pos 60) t refl first_day (lit< tt, inl refl) hour_ahead s in
    let negative : pos t ≡ negsuc 3599 = equation in
    omega (arith, signed_arith, negative)

pub past_last : (t : ℕ) → SpellsMoment (codes "20991231235959-0001") t → ⊥
past_last t s =
    let equation = spelled_equation (codes "20991231235959-0001") (codes "20991231") (codes "235959")
    (codes "-0001") (pos 47_481) 86_399 (neg_ℤ (pos 1)) t refl last_day (lit< tt, inl refl) minute_behind s in
    let late : pos t ≡ pos 4_102_444_859 = equation in
    omega (arith, signed_arith, late, s.moment)

-- a text that does not end in `Z` ends in five bytes that say its offset
zone_at_end : (text : List ℕ) (size : ℕ) → length text ≡ size + 5 → get_or text (size + 4) 0 < 90
    → ((o : ℤ) → IsOffsetText (drop size text) o → ⊥) → (t : ℕ) → SpellsMoment text t → ⊥
zone_at_end text size len last none t s = elim (ends text (s.date ++ s.clock) s.zone s.offset s.text_is s.zone_is) [
  | inl u ↦
      let at : length (s.date ++ s.clock) ≡ size + 4 = omega (arith, len, u.length_is) in
      omega (arith, last, u.last_is, ap (λ (n : ℕ). get_or text n 0) at)
  | inr v ↦
      let at : length (s.date ++ s.clock) ≡ size = omega (arith, len, v.length_is) in
      let zone : drop size text ≡ s.zone = ap (drop size) s.text_is ∙ drop_at (s.date ++ s.clock) s.zone size at in
      none s.offset (rw zone s.zone_is)
]

-- an offset has an hour below 24 behind its sign
no_hour_24 : (o : ℤ) → IsOffsetText (codes "+2400") o → ⊥
no_hour_24 o (inl z) = heads_differ (codes "+2400") (codes "2400") [] 43 90 (lit≤ tt) refl z.0
no_hour_24 o (inr (inl h)) =
    let digits : codes "2400" ≡ h.0 = ap (drop 1) h.2 in
    let same = digits ∙ h.3.1 in
    let tens : 50 ≡ 48 + h.1 / 60 / 10 = ap (λ (l : List ℕ). get_or l 0 0) same in
    let ones : 52 ≡ 48 + h.1 / 60 % 10 = ap (λ (l : List ℕ). get_or l 1 0) same in
    omega (arith, tens, ones, h.3.0)
no_hour_24 o (inr (inr h)) = heads_differ (codes "+2400") (codes "2400") h.0 43 45 (lit≤ tt) refl h.2

no_sign : (o : ℤ) → IsOffsetText (codes "00+01") o → ⊥
no_sign o (inl z) = heads_differ (codes "00+01") (codes "0+01") [] 48 90 (lit≤ tt) refl z.0
no_sign o (inr (inl h)) = heads_differ (codes "00+01") h.0 (codes "0+01") 43 48 (lit≤ tt) h.2 refl
no_sign o (inr (inr h)) = heads_differ (codes "00+01") h.0 (codes "0+01") 45 48 (lit≤ tt) h.2 refl

pub hour_24 : (t : ℕ) → SpellsMoment (codes "20260105100000+2400") t → ⊥
hour_24 = zone_at_end (codes "20260105100000+2400") 14 refl (lit< tt) no_hour_24

pub hours_alone : (t : ℕ) → SpellsMoment (codes "20260105100000+01") t → ⊥
hours_alone = zone_at_end (codes "20260105100000+01") 12 refl (lit< tt) no_sign
