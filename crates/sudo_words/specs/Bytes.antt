-- The names of the bytes to which sudoers gives a meaning (sudoers(5), "SUDOERS FILE FORMAT").
use Rattle.std.specs.Prelude.{ℕ, List, replicate}
use Rattle.std.specs.Str.{byte}

-- ---- blanks, and what ends a line

abbrev pub space : ℕ
space = byte " "

-- so many of them, as between the columns of a line
abbrev pub spaces : ℕ → List ℕ
spaces count = replicate count space

abbrev pub tab : ℕ
tab = byte "\t"

abbrev pub newline : ℕ
newline = byte "\n"

-- ---- marks, which stand for themselves

-- between a name or hosts and a list
abbrev pub equals : ℕ
equals = byte "="

-- between the items of a list
abbrev pub comma : ℕ
comma = byte ","

-- between definitions or parts of a line, and after a tag
abbrev pub colon : ℕ
colon = byte ":"

-- around targets
abbrev pub opening : ℕ
opening = byte "("

abbrev pub closing : ℕ
closing = byte ")"

-- written twice where no argument is allowed
abbrev pub quote : ℕ
quote = byte "\""

-- ---- signs

-- before what is negated
abbrev pub bang : ℕ
bang = byte "!"

-- before a mark in an argument, and at the end of a line that goes on
abbrev pub backslash : ℕ
backslash = byte "\\"

-- before a comment
abbrev pub hash : ℕ
hash = byte "#"
