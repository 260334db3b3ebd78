-- The targets that the desk reads: a path alone, in ASCII, as it stands (RFC 9112, section 3.2.1,
-- without a query).
use Rattle.std.specs.Prelude.{ℕ, List, Bool, ◌&&◌, ◌||◌, not, ◌==◌, nat_lt, get_or}
use Rattle.std.specs.List.{list_all}

abbrev pub slash : ℕ
slash = 47

abbrev pub question_mark : ℕ
question_mark = 63

abbrev pub number_sign : ℕ
number_sign = 35

abbrev pub percent_sign : ℕ
percent_sign = 37

-- ASCII, and not a mark that begins a query, a fragment or an encoded byte (RFC 3986, sections 2.1,
-- 3.4 and 3.5)
abbrev pub is_plain_byte : ℕ → Bool
is_plain_byte b =
    nat_lt b 128 && not (b == question_mark || (b == number_sign || b == percent_sign))

-- the target begins with a slash, and each byte is plain
abbrev pub is_plain : List ℕ → Bool
is_plain target = get_or target 0 0 == slash && list_all is_plain_byte target
