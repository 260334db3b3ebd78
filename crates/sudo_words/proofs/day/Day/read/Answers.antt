use Rattle.std.proofs.Common.{◌≡◌, ℤ, pos, Option, Some, None}
use Rattle.sudo_words.proofs.day.Day.read.Goals as goal

-- `None` is not this number
no_number : {P : Type 0} (n : ℤ) → ◌≡◌ {A = Option ℤ} None (Some n) → P
no_number n e = absurd cc

pub returns-in_err-date-clause-only : goal.returns-in_err-date-clause-only
returns-in_err-date-clause-only c = λ d in_days is. no_number (pos d) (c.in_err-date.ensures.only (pos d) (rw c.as_bytes.ensures.value is))
