-- `date_of` counts days as the calendar does.
use Rattle.std.proofs.Common.{◌≡◌, ℕ, zero, suc, ◌+◌, ◌-◌, ◌<◌, ◌≤◌, ◌∙◌, refl, sym, subst, ap, inl, inr, arith, pos}
use Rattle.std.specs.Int.{IsInRange}
use Rattle.std.proofs.lemmas.Bool.{cases_lt, cond-true, cond-false, lt-ltb, le-ltb}
use Rattle.jiff_core.specs.declared.civil.date.Date.{Date}
use Rattle.jiff_core.specs.Date.{epoch_day}
use Rattle.jiff_core.specs.Calendar.{IsYear, IsCivilDate, day_count, day_of_year, days_from_civil, days_in_month, days_in_year, days_of_months}
use Rattle.jiff_core.proofs.SignedLemmas.{signed_arith}
use Rattle.jiff_core.proofs.MarchLemmas.{day_count-early}
use Rattle.jiff_core.proofs.CalendarLemmas.{days_from_civil-day_count, day_count-epoch, day_count-next_year, day_count-day_of_year}
use Rattle.jiff_core.proofs.CalendarLemmas.{days_in_month_bounds, days_of_months_more, days_of_months-zero, days_of_months_all}
use Rattle.jiff_core.proofs.DateLemmas.{epoch_day_injective}
use Rattle.sudo_words.specs.Moment.{CalendarDate, date_from_month, date_from_year, date_of}

abbrev made : ℕ → ℕ → ℕ → CalendarDate
made y m d = record { year = y; month = m; day_of_month = d }

-- one step of the count over the months, and one of that over the years
month-last : (y m days : ℕ) → date_from_month 0 y m days ≡ made y m (days + 1)
unfolding date_from_month
month-last y m days = refl

month-here : (later y m days : ℕ) → days < days_in_month (pos y) m → date_from_month (suc later) y m days ≡ made y m (days + 1)
unfolding date_from_month
month-here later y m days h = cond-true _ _ _ (lt-ltb days (days_in_month (pos y) m) h)

month-later : (later y m days : ℕ) → days_in_month (pos y) m ≤ days
    → date_from_month (suc later) y m days ≡ date_from_month later y (m + 1) (days - days_in_month (pos y) m)
unfolding date_from_month
month-later later y m days h = cond-false _ _ _ (le-ltb days (days_in_month (pos y) m) h)

year-last : (y days : ℕ) → date_from_year 0 y days ≡ date_from_month 11 y 1 days
unfolding date_from_year
year-last y days = refl

year-here : (later y days : ℕ) → days < days_in_year (pos y) → date_from_year (suc later) y days ≡ date_from_month 11 y 1 days
unfolding date_from_year
year-here later y days h = cond-true _ _ _ (lt-ltb days (days_in_year (pos y)) h)

year-later : (later y days : ℕ) → days_in_year (pos y) ≤ days → date_from_year (suc later) y days ≡ date_from_year later (y + 1) (days - days_in_year (pos y))
unfolding date_from_year
year-later later y days h = cond-false _ _ _ (le-ltb days (days_in_year (pos y)) h)

-- the date is in the year, at this place counted from 1
record IsPlace (date : CalendarDate) (y place : ℕ) : Type 0 where
  pub year_is : date.year ≡ y
  pub month_in : IsInRange 1 12 date.month
  pub day_in : IsInRange 1 (days_in_month (pos y) date.month) date.day_of_month
  pub place_is : day_of_year (pos y) date.month date.day_of_month ≡ place

-- a day of a month is at that place
place : (y m days : ℕ) → 1 ≤ m → m ≤ 12 → days < days_in_month (pos y) m → IsPlace (made y m (days + 1)) y (days + days_of_months (pos y) (m - 1) + 1)
place y m days low high h = record {
  year_is = refl;
  month_in = (low, high);
  day_in = (omega arith, omega arith);
  place_is = omega arith;
}

-- counting on from a month finds the place in the year
place_from_month : (later y m days : ℕ) → 1 ≤ m → m + later ≡ 12 → days + days_of_months (pos y) (m - 1) < days_in_year (pos y)
    → IsPlace (date_from_month later y m days) y (days + days_of_months (pos y) (m - 1) + 1)
place_from_month zero y m days low end h =
    let december : m ≡ 12 = omega arith in
    let all : days_of_months (pos y) m ≡ days_in_year (pos y) = ap (days_of_months (pos y)) december ∙ days_of_months_all (pos y) in
    let in_month : days < days_in_month (pos y) m = omega (arith, days_of_months_more (pos y) m low, all, h) in
    rw month-last (place y m days low (omega arith) in_month)
place_from_month (suc later) y m days low end h =
    elim (cases_lt days (days_in_month (pos y) m)) [
      | inl here ↦ rw (month-here later y m days here) (place y m days low (omega arith) here)
      | inr after ↦
          let rest = days - days_in_month (pos y) m in
          let back : m + 1 - 1 ≡ m = omega arith in
          let sum : rest + days_of_months (pos y) (m + 1 - 1) ≡ days + days_of_months (pos y) (m - 1) =
          rw back (omega (arith, days_of_months_more (pos y) m low, after)) in
          let found = place_from_month later y (m + 1) rest (omega arith) (omega arith) (rw sum h) in
          rw (month-later later y m days after) (rw sum at found)
    ]

-- the date is one of the calendar's, from the year `y` on, with so many days before it
record IsCounted (date : CalendarDate) (y last count : ℕ) : Type 0 where
  pub year_in : IsInRange y last date.year
  pub civil : IsCivilDate (pos date.year) date.month date.day_of_month
  pub count_is : day_count (pos date.year) date.month date.day_of_month ≡ count

counted : (date : CalendarDate) (y days last : ℕ) → y ≤ last → last ≤ 9999 → IsPlace date y (days + 1) → IsCounted date y last (days + day_count (pos y) 1 1)
counted date y days last low high p =
    let year : IsYear (pos y) = omega (arith, signed_arith) in
    let count : day_count (pos y) date.month date.day_of_month ≡ days + day_count (pos y) 1 1 =
    omega (arith, day_count-day_of_year (pos y) date.month date.day_of_month p.day_in.0, p.place_is) in
    let same = sym p.year_is in
    record {
      year_in = (omega (arith, p.year_is), omega (arith, p.year_is));
      civil = subst (λ (n : ℕ). IsCivilDate (pos n) date.month date.day_of_month) same (year, p.month_in, p.day_in);
      count_is = subst (λ (n : ℕ). day_count (pos n) date.month date.day_of_month ≡ days + day_count (pos y) 1 1) same count;
    }

place_in_year : (y days : ℕ) → days < days_in_year (pos y) → IsPlace (date_from_month 11 y 1 days) y (days + 1)
place_in_year y days h =
    let none : days + days_of_months (pos y) 0 ≡ days = omega (arith, days_of_months-zero (pos y)) in
    rw none at (place_from_month 11 y 1 days (omega arith) refl (rw none h))

-- counting on from a year finds a date with so many days before it
counted_from_year : (later y days last : ℕ) → y + later ≡ last → last ≤ 9999 → days + day_count (pos y) 1 1 < day_count (pos last) 1 1 + days_in_year (pos last)
    → IsCounted (date_from_year later y days) y last (days + day_count (pos y) 1 1)
counted_from_year zero y days last end high h =
    let same : last ≡ y = omega arith in
    let in_year : days < days_in_year (pos y) = omega (arith, rw same at h) in
    rw (year-last y days) (counted (date_from_month 11 y 1 days) y days last (omega arith) high (place_in_year y days in_year))
counted_from_year (suc later) y days last end high h =
    elim (cases_lt days (days_in_year (pos y))) [
      | inl here ↦ rw (year-here later y days here) (counted (date_from_month 11 y 1 days) y days last (omega arith) high (place_in_year y days here))
      | inr after ↦
          let rest = days - days_in_year (pos y) in
          let next = day_count-next_year (pos y) (pos (y + 1)) (omega (arith, signed_arith)) (omega (arith, signed_arith)) in
          let sum : rest + day_count (pos (y + 1)) 1 1 ≡ days + day_count (pos y) 1 1 = omega (arith, next, after) in
          let found = counted_from_year later (y + 1) rest last (omega arith) high (rw sum h) in
          rw (year-later later y days after) record {
            year_in = (omega (arith, found.year_in), found.year_in.1);
            civil = found.civil;
            count_is = found.count_is ∙ sum;
          }
    ]

-- 2100-01-01 comes 47,482 days after 1970-01-01
day_count-end : day_count (pos 2099) 1 1 + days_in_year (pos 2099) ≡ 4_419_435
day_count-end = omega (arith, day_count-early (pos 2099) 12098 1 1 refl (omega arith) (omega arith) (omega arith))

-- the date with a day number, in the years 1970 to 2099
pub record IsDateOf (day : ℕ) (date : CalendarDate) : Type 0 where
  pub year_in : IsInRange 1970 2099 date.year
  pub civil : IsCivilDate (pos date.year) date.month date.day_of_month
  pub number : days_from_civil (pos date.year) date.month date.day_of_month ≡ pos day

pub date_of_is : (day : ℕ) → day ≤ 47_481 → IsDateOf day (date_of day)
unfolding date_of
date_of_is day h =
    let within : day + day_count (pos 1970) 1 1 < day_count (pos 2099) 1 1 + days_in_year (pos 2099) = omega (arith, day_count-end, day_count-epoch) in
    let found = counted_from_year 129 1970 day 2099 refl (omega arith) within in
    record {
      year_in = found.year_in;
      civil = found.civil;
      number = omega (arith, signed_arith, days_from_civil-day_count, found.count_is, day_count-epoch);
    }

-- the library's date with a day number has the numbers of `date_of`
pub library_date_is : (date : Date) (day : ℕ) → day ≤ 47_481 → epoch_day date ≡ pos day
    → (date.year ≡ pos (date_of day).year) × (date.month ≡ (date_of day).month) × (date.day ≡ (date_of day).day_of_month)
library_date_is date day h number =
    let is = date_of_is day h in
    let known : Date = record {
      year = pos (date_of day).year;
      month = (date_of day).month;
      day = (date_of day).day_of_month;
      year_in = is.civil.0;
      month_in = is.civil.1;
      day_in = is.civil.2;
    } in
    epoch_day_injective date known (number ∙ sym is.number)

-- and no other date of the calendar has it
pub date_of_only : (y m d day : ℕ) → day ≤ 47_481 → IsCivilDate (pos y) m d → days_from_civil (pos y) m d ≡ pos day
    → (y ≡ (date_of day).year) × (m ≡ (date_of day).month) × (d ≡ (date_of day).day_of_month)
date_of_only y m d day h civil number =
    let known : Date = record { year = pos y; month = m; day = d; year_in = civil.0; month_in = civil.1; day_in = civil.2 } in
    let same = library_date_is known day h number in
    let year : pos y ≡ pos (date_of day).year = same.0 in
    (cc, same.1, same.2)

-- a date with such a day number is within these bounds
pub numbers_in : (y m d day : ℕ) → day ≤ 47_481 → IsCivilDate (pos y) m d → days_from_civil (pos y) m d ≡ pos day → IsInRange 1970 2099 y × (m ≤ 12) × (d ≤ 31)
numbers_in y m d day h civil number =
    let same = date_of_only y m d day h civil number in
    let is = date_of_is day h in
    let long = days_in_month_bounds (pos y) m in
    ((omega (arith, same.0, is.year_in), omega (arith, same.0, is.year_in)), civil.1.1, omega (arith, civil.2, long))
