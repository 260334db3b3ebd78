-- Moments, after Generalized Time (RFC 4517, section 3.3.13): whole seconds of UTC, and the texts
-- that spell them.
use Rattle.std.specs.Prelude.{◌≡◌, ℕ, zero, suc, ◌+◌, ◌-◌, ◌/◌, ◌%◌, ◌<◌, ◌≤◌, ◌⊎◌, ◌&&◌}
use Rattle.std.specs.Prelude.{◌||◌, ◌==◌, Bool, nat_lt, nat_le, if◌then◌else◌, List, []}
use Rattle.std.specs.Prelude.{◌∷◌, ◌++◌, ℤ, pos, neg_ℤ, ◌+ℤ◌, ◌-ℤ◌, ◌*ℤ◌, codes}
use Rattle.jiff_core.specs.Calendar.{IsCivilDate, days_from_civil, days_in_month, days_in_year}

-- A moment is the count of seconds since 1970-01-01T00:00:00Z, up to 2099-12-31T23:59:59Z.
abbrev pub IsMoment : ℕ → Type 0
IsMoment t = t ≤ 4_102_444_799

-- A day is the count of days since 1970-01-01, up to 2099-12-31; a moment is in one.
abbrev pub IsDay : ℕ → Type 0
IsDay day = day ≤ 47_481

abbrev pub day_of : ℕ → ℕ
day_of t = t / 86_400

-- a number below 100 in two digits, and one below 10000 in four
abbrev pub two : ℕ → List ℕ
two n = (48 + n / 10) ∷ (48 + n % 10) ∷ []

abbrev pub four : ℕ → List ℕ
four n = two (n / 100) ++ two (n % 100)

-- `yyyymmdd`: the calendar's date with this day number, where 1970-01-01 is 0 and the day before it
-- -1. The year has four digits.
pub record IsDateText (text : List ℕ) (day : ℤ) : Type 0 where
  pub year : ℕ
  pub month : ℕ
  pub day_of_month : ℕ
  pub date : IsCivilDate (pos year) month day_of_month
  pub number : days_from_civil (pos year) month day_of_month ≡ day
  pub text_is : text ≡ four year ++ two month ++ two day_of_month

-- the time of day: hours, minutes and seconds since midnight
abbrev pub hour : ℕ → ℕ
hour t = t % 86_400 / 3600

abbrev pub minute : ℕ → ℕ
minute t = t % 3600 / 60

abbrev pub second : ℕ → ℕ
second t = t % 60

-- What may stand after the date, for a time so many seconds into the day: `HHMMSS`; or `HHMM` where
-- the seconds are 00; or `HH` where the minutes are 00 too.
abbrev pub IsClockText : List ℕ → ℕ → Type 0
IsClockText text seconds =
    (seconds < 86_400) × (
    (text ≡ two (hour seconds) ++ two (minute seconds) ++ two (second seconds))
    ⊎ ((text ≡ two (hour seconds) ++ two (minute seconds)) × (second seconds ≡ 0))
    ⊎ ((text ≡ two (hour seconds)) × (minute seconds ≡ 0) × (second seconds ≡ 0)))

-- `hhmm`: so many minutes, from 0000 to 2359
abbrev pub IsDistance : List ℕ → ℕ → Type 0
IsDistance text minutes = (minutes < 1_440) × (text ≡ two (minutes / 60) ++ two (minutes % 60))

-- What ends a time, for a clock so many minutes ahead of UTC: `Z` for UTC itself; `+hhmm`; or
-- `-hhmm` for one that is behind it.
abbrev pub IsOffsetText : List ℕ → ℤ → Type 0
IsOffsetText text offset =
    ((text ≡ codes "Z") × (offset ≡ pos 0)) ⊎ ((digits : List ℕ) × (minutes : ℕ)
    × (text ≡ codes "+" ++ digits) × IsDistance digits minutes × (offset ≡ pos minutes))
    ⊎ ((digits : List ℕ) × (minutes : ℕ) × (text ≡ codes "-" ++ digits)
    × IsDistance digits minutes × (offset ≡ neg_ℤ (pos minutes)))

-- The text spells the moment: 86,400 seconds for each day up to its date, and the seconds into that
-- day, less 60 for each minute of its offset. The date itself may lie outside the years of moments.
pub record SpellsMoment (text : List ℕ) (t : ℕ) : Type 0 where
  pub moment : IsMoment t
  pub date : List ℕ
  pub clock : List ℕ
  pub zone : List ℕ
  pub day : ℤ
  pub seconds : ℕ
  pub offset : ℤ
  pub text_is : text ≡ date ++ clock ++ zone
  pub date_is : IsDateText date day
  pub clock_is : IsClockText clock seconds
  pub zone_is : IsOffsetText zone offset
  pub moment_is : pos t ≡ pos 86_400 *ℤ day +ℤ pos seconds -ℤ pos 60 *ℤ offset

-- The moment's one canonical text, of 15 bytes: date, hours, minutes, seconds and `Z`.
pub record IsStamp (text : List ℕ) (t : ℕ) : Type 0 where
  pub moment : IsMoment t
  pub date : List ℕ
  pub text_is : text ≡ date ++ two (hour t) ++ two (minute t) ++ two (second t) ++ codes "Z"
  pub date_is : IsDateText date (pos (t / 86_400))

-- a date in numbers
pub record CalendarDate : Type 0 where
  pub year : ℕ
  pub month : ℕ
  pub day_of_month : ℕ

-- so many days after the first of a month, in that month or one of the `later` months after it
unfoldable pub date_from_month : (later year month days : ℕ) → CalendarDate
date_from_month zero year month days = record {
  year = year;
  month = month;
  day_of_month = days + 1;
}
date_from_month (suc later) year month days =
    if nat_lt days (days_in_month (pos year) month) then
    record { year = year; month = month; day_of_month = days + 1 }
    else date_from_month later year (month + 1) (days - days_in_month (pos year) month)

-- so many days after 1 January, in that year or one of the `later` years after it
unfoldable pub date_from_year : (later year days : ℕ) → CalendarDate
date_from_year zero year days = date_from_month 11 year 1 days
date_from_year (suc later) year days =
    if nat_lt days (days_in_year (pos year)) then date_from_month 11 year 1 days
    else date_from_year later (year + 1) (days - days_in_year (pos year))

-- the calendar's date with this day number, in the years 1970 to 2099
unfoldable pub date_of : ℕ → CalendarDate
date_of day = date_from_year 129 1970 day

-- that date as `yyyymmdd`
abbrev pub date_text : ℕ → List ℕ
date_text day = four (date_of day).year ++ two (date_of day).month ++ two (date_of day).day_of_month

-- the canonical text itself
abbrev pub stamp : ℕ → List ℕ
stamp t = date_text (t / 86_400) ++ two (hour t) ++ two (minute t) ++ two (second t) ++ codes "Z"

-- a byte that may stand in a moment's text: a digit, or `Z`
abbrev pub is_stamp_byte : ℕ → Bool
is_stamp_byte b = (nat_le 48 b && nat_le b 57) || (b == 90)
