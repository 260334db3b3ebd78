use Rattle.std.proofs.Common.{◌≡◌, ℕ, ◌+◌, ◌^◌, ◌<◌, ◌≤◌, ◌∙◌, ◌+ℤ◌, ap, arith, rules, pos, w16, to_z, of_z, unsigned_abs}
use Rattle.jiff_core.specs.declared.civil.date.Date.{Date}
use Rattle.jiff_core.specs.Date.{epoch_day}
use Rattle.jiff_core.proofs.SignedLemmas.{signed_arith, back_small}
use Rattle.sudo_words.specs.Moment.{date_of}
use Rattle.sudo_words.proofs.Days.{date_of_is, library_date_is}
use Rattle.sudo_words.proofs.civil.date_at.Goals as goal

-- the library's year is the one of `date_of`, also as the cast reads it
year_back : (date : Date) (day : ℕ) → day ≤ 47_481 → epoch_day date +ℤ pos 4_371_587 ≡ pos (day + 4_371_587)
    → (to_z w16 (of_z w16 date.year) ≡ pos (date_of day).year) × (date.month ≡ (date_of day).month) × (date.day ≡ (date_of day).day_of_month)
year_back date day h e =
    let number : epoch_day date ≡ pos day = omega (arith, signed_arith) in
    let same = library_date_is date day h number in
    let is = date_of_is day h in
    let year : date.year ≡ pos (date_of day).year = same.0 in
    let small : unsigned_abs date.year < 2 ^ 15 = omega (arith, signed_arith, year, is.year_in) in
    (back_small w16 date.year small ∙ year, same.1, same.2)

pub overflow_cast-result : goal.overflow_cast-result
overflow_cast-result c =
    let h = year_back c.from_days_since_min-date.result c.args.days c.requires c.from_days_since_min-date.ensures in
    let is = date_of_is c.args.days c.requires in
    rw h.0 (search (rules, is))

pub returns-clause-year : goal.returns-clause-year
returns-clause-year c = ap unsigned_abs (year_back c.from_days_since_min-date.result c.args.days c.requires c.from_days_since_min-date.ensures).0

pub returns-clause-month : goal.returns-clause-month
returns-clause-month c = (year_back c.from_days_since_min-date.result c.args.days c.requires c.from_days_since_min-date.ensures).1

pub returns-clause-day : goal.returns-clause-day
returns-clause-day c = (year_back c.from_days_since_min-date.result c.args.days c.requires c.from_days_since_min-date.ensures).2
