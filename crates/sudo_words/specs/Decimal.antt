-- The texts that write a decimal number.
use Rattle.std.specs.Prelude.{ℕ, List, Bool, ◌&&◌, length, nat_lt, nat_le}
use Rattle.std.specs.List.{list_all}
use Rattle.std.specs.Char.{is_ascii_digit}

-- 1 to 9 digits
abbrev pub is_decimal : List ℕ → Bool
is_decimal value =
    nat_lt 0 (length value) && (nat_le (length value) 9 && list_all is_ascii_digit value)
