-- The columns of a report's lines, and its lines as one text.
use Rattle.std.specs.Prelude.{ℕ, ◌-◌, List, ◌++◌, length, codes, decimal}
use Rattle.std.specs.List.{flat_map}
use Rattle.sudo_words.specs.Bytes.{spaces}
use Rattle.messages.specs.declared.request_name.RequestName.{RequestName}

-- a word, left-aligned in 32 places
abbrev pub left : List ℕ → List ℕ
left word = word ++ spaces (32 - length word)

-- a number, right-aligned in 9 places
abbrev pub right : ℕ → List ℕ
right number = spaces (9 - length (decimal number)) ++ decimal number

-- who asked, and the number of the request
abbrev pub name_columns : RequestName → List ℕ
name_columns name = left name.by ++ codes " " ++ right name.no

-- each line with its newline
abbrev pub lines_text : List (List ℕ) → List ℕ
lines_text lines = flat_map (λ line. line ++ codes "\n") lines
