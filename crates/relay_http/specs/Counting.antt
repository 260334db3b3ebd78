-- Failures, counted.
use Rattle.std.specs.Prelude.{◌+◌, ◌==◌, ℕ, min, Result, Ok, Err, if◌then◌else◌}

-- the greatest count
abbrev pub most_failures : ℕ
most_failures = 18_446_744_073_709_551_615

-- one more, up to the greatest
abbrev pub one_failure : ℕ → ℕ
one_failure count = min (count + 1) most_failures

-- the count after a read or a flush: each error counts
abbrev pub after_read : {A E : Type 0} → Result A E → ℕ → ℕ
after_read (Ok a) count = count
after_read (Err e) count = one_failure count

-- the count after a write: each error counts, and each that takes nothing
abbrev pub after_write : {E : Type 0} → Result ℕ E → ℕ → ℕ
after_write (Ok taken) count = if taken == 0 then one_failure count else count
after_write (Err e) count = one_failure count
