-- The canonical texts of moments and their bytes, and the parts of any spelling.
use Rattle.std.proofs.Common.{◌≡◌, ℕ, ◌+◌, ◌-◌, ◌*◌, ◌/◌, ◌%◌, ◌<◌, ◌≤◌, ◌∙◌, ◌⊎◌, List, [], ◌∷◌, ◌++◌, length, get_or, take, drop, refl}
use Rattle.std.proofs.Common.{sym, ap, inl, inr, arith, true, append_assoc, length-append, ℤ, pos, neg_ℤ, FitsSigned, w32, ◌+ℤ◌, ◌-ℤ◌, ◌*ℤ◌}
use Rattle.std.specs.Prelude.{codes}
use Rattle.std.specs.List.{AllByRecursion}
use Rattle.std.proofs.lemmas.Bool.Decides.{nat_tests}
use Rattle.std.proofs.lemmas.List.{take_at, drop_at, get_or-append-add, get_or-append_right}
use Rattle.jiff_core.proofs.CalendarLemmas.{day_count_bounds, days_from_civil-day_count}
use Rattle.jiff_core.proofs.SignedLemmas.{signed_arith}
use Rattle.sudo_words.specs.Moment.{IsClockText, IsDateText, IsDistance, IsMoment, IsOffsetText, IsStamp, SpellsMoment}
use Rattle.sudo_words.specs.Moment.{date_of, date_text, four, hour, is_stamp_byte, minute, second, stamp, two}
use Rattle.sudo_words.proofs.Days.{date_of_is, date_of_only, numbers_in}

-- the day of a moment is among the days that `date_of` knows
pub day_in : (t : ℕ) → IsMoment t → t / 86_400 ≤ 47_481
day_in t h = omega arith

-- the text of a day is its date, and no other text is
pub date_text_is : (day : ℕ) → day ≤ 47_481 → IsDateText (date_text day) (pos day)
date_text_is day h =
    let is = date_of_is day h in
    record {
      year = (date_of day).year;
      month = (date_of day).month;
      day_of_month = (date_of day).day_of_month;
      date = is.civil;
      number = is.number;
      text_is = refl;
    }

pub date_text_only : (text : List ℕ) (day : ℕ) → day ≤ 47_481 → IsDateText text (pos day) → text ≡ date_text day
date_text_only text day h d =
    let same = date_of_only d.year d.month d.day_of_month day h d.date d.number in
    let text_is : four d.year ++ two d.month ++ two d.day_of_month ≡ date_text day = rw (same.0, same.1, same.2) refl in
    d.text_is ∙ text_is

-- the canonical text is one, of 15 bytes
pub stamp_is : (t : ℕ) → IsMoment t → IsStamp (stamp t) t
stamp_is t h = record { moment = h; date = date_text (t / 86_400); text_is = refl; date_is = date_text_is (t / 86_400) (day_in t h) }

pub stamp_only : (text : List ℕ) (t : ℕ) → IsStamp text t → text ≡ stamp t
stamp_only text t s =
    let date = date_text_only s.date (t / 86_400) (day_in t s.moment) s.date_is in
    s.text_is ∙ rw date refl

pub stamp_length : (t : ℕ) → length (stamp t) ≡ 15
stamp_length t = refl

-- in UTC the moment is the seconds of the days before it and of its own
utc_moment : (days seconds : ℕ) → pos (86_400 * days + seconds) ≡ pos 86_400 *ℤ pos days +ℤ pos seconds -ℤ pos 60 *ℤ pos 0
utc_moment days seconds = omega (arith, signed_arith)

-- the time of day of a moment is that of its seconds into the day
pub clock_in_day : (t : ℕ)
    → two (hour t) ++ two (minute t) ++ two (second t) ≡ two (hour (t % 86_400)) ++ two (minute (t % 86_400)) ++ two (second (t % 86_400))
clock_in_day t =
    let h : hour t ≡ hour (t % 86_400) = omega arith in
    let m : minute t ≡ minute (t % 86_400) = omega arith in
    let z : second t ≡ second (t % 86_400) = omega arith in
    rw (h, m, z) refl

-- a date and a time of day of UTC spell the moment of both
pub spells_from : (text date clock : List ℕ) (days seconds : ℕ) → text ≡ date ++ clock ++ codes "Z" → days ≤ 47_481
    → IsDateText date (pos days) → IsClockText clock seconds → SpellsMoment text (86_400 * days + seconds)
spells_from text date clock days seconds e below date_is clock_is = record {
  moment = omega (arith, clock_is.0);
  date = date;
  clock = clock;
  zone = codes "Z";
  day = pos days;
  seconds = seconds;
  offset = pos 0;
  text_is = e;
  date_is = date_is;
  clock_is = clock_is;
  zone_is = inl (refl, refl);
  moment_is = utc_moment days seconds;
}

-- a date's day number and an offset fit the code's integers
pub day_fits : (text : List ℕ) (day : ℤ) → IsDateText text day → FitsSigned w32 day
day_fits text day d =
    let count = days_from_civil-day_count (pos d.year) d.month d.day_of_month in
    let bounds = day_count_bounds (pos d.year) d.month d.day_of_month d.date in
    omega (arith, signed_arith, d.number, count, bounds)

pub offset_fits : (end : List ℕ) (o : ℤ) → IsOffsetText end o → FitsSigned w32 o
offset_fits end o (inl z) = rw z.1 (omega (arith, signed_arith))
offset_fits end o (inr (inl h)) = rw h.4 (omega (arith, signed_arith, h.3))
offset_fits end o (inr (inr h)) = rw h.4 (omega (arith, signed_arith, h.3))

-- what a spelling has in its first 8 bytes, and behind them
pub cut_date : (text date clock zone : List ℕ) (day : ℤ) → text ≡ date ++ clock ++ zone
    → IsDateText date day → (take 8 text ≡ date) × (drop 8 text ≡ clock ++ zone)
cut_date text date clock zone day e d =
    let digits = four d.year ++ two d.month ++ two d.day_of_month in
    let whole : text ≡ digits ++ clock ++ zone = e ∙ ap (λ (l : List ℕ). l ++ clock ++ zone) d.text_is in
    (ap (take 8) whole ∙ sym d.text_is, ap (drop 8) whole)

pub parted : (text front rest : List ℕ) (t : ℕ) → front ≡ take 8 text → rest ≡ drop 8 text → (s : SpellsMoment text t)
    → (front ≡ s.date) × (rest ≡ s.clock ++ s.zone)
parted text front rest t f r s = let cut = cut_date text s.date s.clock s.zone s.day s.text_is s.date_is in (f ∙ cut.0, r ∙ cut.1)

-- what ends a time is `Z`, or five bytes, the last a digit
abbrev IsNumeric : List ℕ → Type 0
IsNumeric end = (length end ≡ 5) × (get_or end 4 0 < 90)

-- an end with a sign
abbrev IsSigned : List ℕ → ℤ → Type 0
IsSigned text offset =
    ((digits : List ℕ) × (minutes : ℕ) × (text ≡ codes "+" ++ digits) × IsDistance digits minutes × (offset ≡ pos minutes))
    ⊎ ((digits : List ℕ) × (minutes : ℕ) × (text ≡ codes "-" ++ digits) × IsDistance digits minutes × (offset ≡ neg_ℤ (pos minutes)))

numeric : (sign : ℕ) (end digits : List ℕ) (minutes : ℕ) → end ≡ sign ∷ digits → IsDistance digits minutes → IsNumeric end
numeric sign end digits minutes e h =
    let whole : end ≡ sign ∷ two (minutes / 60) ++ two (minutes % 60) = e ∙ ap (λ (d : List ℕ). sign ∷ d) h.1 in
    (rw whole refl, rw whole (omega arith))

numeric_end : (end : List ℕ) (o : ℤ) → IsSigned end o → IsNumeric end
numeric_end end o (inl h) = numeric 43 end h.0 h.1 h.2 h.3
numeric_end end o (inr h) = numeric 45 end h.0 h.1 h.2 h.3

-- so the text's last byte says how long it is
pub record IsUtc (text front : List ℕ) : Type 0 where
  pub length_is : length front + 1 ≡ length text
  pub last_is : get_or text (length front) 0 ≡ 90

pub record IsOffset (text front : List ℕ) : Type 0 where
  pub length_is : length front + 5 ≡ length text
  pub last_is : get_or text (length front + 4) 0 < 90

zulu_at : (n : ℕ) → get_or (codes "Z") (n - n) 0 ≡ 90
zulu_at n = let none : n - n ≡ 0 = omega arith in rw none refl

ends_utc : (text front end : List ℕ) → text ≡ front ++ end → end ≡ codes "Z" → IsUtc text front
ends_utc text front end e z =
    let whole : text ≡ front ++ codes "Z" = rw z at e in
    record {
      length_is = sym (ap length whole ∙ length-append front (codes "Z"));
      last_is = ap (λ (l : List ℕ). get_or l (length front) 0) whole
          ∙ get_or-append_right front (codes "Z") (length front) (length front) 0 refl (omega arith) ∙ zulu_at (length front);
    }

ends_offset : (text front end : List ℕ) → text ≡ front ++ end → IsNumeric end → IsOffset text front
ends_offset text front end e z =
    let at : get_or text (length front + 4) 0 ≡ get_or end 4 0 = ap (λ (l : List ℕ). get_or l (length front + 4) 0) e ∙ get_or-append-add front end 4 0 in
    record {
      length_is = omega (arith, ap length e, length-append front end, z.0);
      last_is = omega (arith, at, z.1);
    }

pub ends : (text front end : List ℕ) (o : ℤ) → text ≡ front ++ end → IsOffsetText end o → IsUtc text front ⊎ IsOffset text front
ends text front end o e (inl z) = inl (ends_utc text front end e z.0)
ends text front end o e (inr z) = inr (ends_offset text front end e (numeric_end end o z))

pub utc_end : (text front end : List ℕ) (o : ℤ) → text ≡ front ++ end → IsOffsetText end o
    → get_or text (length text - 1) 0 ≡ 90 → (end ≡ codes "Z") × (o ≡ pos 0)
utc_end text front end o e (inl z) last = z
utc_end text front end o e (inr z) last =
    let is = ends_offset text front end e (numeric_end end o z) in
    let at : length front + 4 ≡ length text - 1 = omega (arith, is.length_is) in
    absurd (omega (arith, is.last_is, last, ap (λ (n : ℕ). get_or text n 0) at))

-- two parts of one text that end alike are the same
pub same_parts : (text a x b y : List ℕ) → text ≡ a ++ x → text ≡ b ++ y → length a ≡ length b → (a ≡ b) × (x ≡ y)
same_parts text a x b y e f len = (
  sym (take_at a x (length a) refl) ∙ ap (take (length a)) (sym e ∙ f) ∙ take_at b y (length a) (sym len),
  sym (drop_at a x (length a) refl) ∙ ap (drop (length a)) (sym e ∙ f) ∙ drop_at b y (length a) (sym len),
)

-- the canonical text spells its moment
pub stamp_spells : (text : List ℕ) (t : ℕ) → IsStamp text t → SpellsMoment text t
stamp_spells text t s =
    let clock = two (hour t) ++ two (minute t) ++ two (second t) in
    let clock_is : clock ≡ two (hour (t % 86_400)) ++ two (minute (t % 86_400)) ++ two (second (t % 86_400)) = clock_in_day t in
    let whole : SpellsMoment text (86_400 * (t / 86_400) + t % 86_400) =
    spells_from text s.date clock (t / 86_400) (t % 86_400) (s.text_is ∙ simp append_assoc) (day_in t s.moment) s.date_is (omega arith, inl clock_is) in
    let same : 86_400 * (t / 86_400) + t % 86_400 ≡ t = omega arith in
    rw same at whole

-- each byte is a digit or `Z`
abbrev pub AreStampBytes : List ℕ → Type 0
AreStampBytes text = AllByRecursion (λ b. is_stamp_byte b ≡ true) text

bytes_append : (a b : List ℕ) → AreStampBytes a → AreStampBytes b → AreStampBytes (a ++ b)
bytes_append [] b h k = k
bytes_append (x ∷ a) b h k = (h.0, bytes_append a b h.1 k)

digit_byte : (n : ℕ) → n < 10 → is_stamp_byte (48 + n) ≡ true
digit_byte n h = grind (arith, nat_tests)

two_bytes : (n : ℕ) → n < 100 → AreStampBytes (two n)
two_bytes n h = (digit_byte (n / 10) (omega arith), (digit_byte (n % 10) (omega arith), tt))

zulu_byte : AreStampBytes (codes "Z")
zulu_byte = (refl, tt)

date_bytes : (text : List ℕ) (day : ℕ) → day ≤ 47_481 → IsDateText text (pos day) → AreStampBytes text
date_bytes text day h d =
    let in_years = numbers_in d.year d.month d.day_of_month day h d.date d.number in
    let year = bytes_append (two (d.year / 100)) (two (d.year % 100))
    (two_bytes (d.year / 100) (omega (arith, in_years.0))) (two_bytes (d.year % 100) (omega arith)) in
    let month = two_bytes d.month (omega (arith, in_years.1)) in
    let day = two_bytes d.day_of_month (omega (arith, in_years.2)) in
    rw d.text_is (bytes_append (four d.year ++ two d.month) (two d.day_of_month) (bytes_append (four d.year) (two d.month) year month) day)

-- the bytes of the canonical text
pub stamp_bytes : (t : ℕ) → IsMoment t → AreStampBytes (stamp t)
stamp_bytes t h =
    let date = date_bytes (date_text (t / 86_400)) (t / 86_400) (day_in t h) (date_text_is (t / 86_400) (day_in t h)) in
    let seconds = bytes_append (two (second t)) (codes "Z") (two_bytes (second t) (omega arith)) zulu_byte in
    let minutes = bytes_append (two (minute t)) (two (second t) ++ codes "Z") (two_bytes (minute t) (omega arith)) seconds in
    let hours = bytes_append (two (hour t)) (two (minute t) ++ two (second t) ++ codes "Z") (two_bytes (hour t) (omega arith)) minutes in
    bytes_append (date_text (t / 86_400)) (two (hour t) ++ two (minute t) ++ two (second t) ++ codes "Z") date hours
