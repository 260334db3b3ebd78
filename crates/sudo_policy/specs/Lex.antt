-- A line as words and marks, and where blanks stand between them.
use Rattle.std.specs.Prelude.{◌≡◌, ℕ, zero, suc, ◌<◌, Bool, true, false, ◌&&◌, ◌||◌}
use Rattle.std.specs.Prelude.{◌==◌, nat_le, if◌then◌else◌, List, [], ◌∷◌, ◌++◌, length}
use Rattle.std.specs.Str.{byte}
use Rattle.sudo_words.specs.Bytes.{space, tab, newline, equals, comma, colon}
use Rattle.sudo_words.specs.Bytes.{opening, closing, quote, bang, backslash}
use Rattle.sudo_words.specs.Word.{is_letter_or_digit}
use Rattle.sudo_words.specs.Command.{is_escaped}
use Rattle.sudo_policy.specs.Span.{Each}

-- the bytes of a text: tab, newline, and the printable ones of ASCII
abbrev pub is_text_byte : ℕ → Bool
is_text_byte b = (b == tab) || (b == newline) || (nat_le space b && nat_le b (byte "~"))

-- a blank is a space or a tab
abbrev pub is_blank : ℕ → Bool
is_blank b = (b == space) || (b == tab)

-- `=`, `,`, `:`, `(`, `)` and `"` stand for themselves
abbrev pub is_mark : ℕ → Bool
is_mark b = (b == equals) || (b == comma) || (b == colon)
    || (b == opening) || (b == closing) || (b == quote)

-- a word is made of letters, digits and `. _ / + - @ %`
abbrev pub is_word_byte : ℕ → Bool
is_word_byte b =
    is_letter_or_digit b || (b == byte ".") || (b == byte "_")
    || (b == byte "/") || (b == byte "+") || (b == byte "-") || (b == byte "@")
    || (b == byte "%")

-- the text of a word: such bytes, and `,`, `:` and `=`, each after a backslash
abbrev pub is_word_text : List ℕ → Bool
is_word_text [] = true
is_word_text (b ∷ []) = is_word_byte b
is_word_text (b ∷ c ∷ rest) = if b == backslash then is_escaped c
    && is_word_text rest else is_word_byte b && is_word_text (c ∷ rest)

-- Whether a word before these bytes would go on with them. A word is cut as long as it can be;
-- otherwise one word could be cut in two, and a text would spell two things.
abbrev pub goes_on : List ℕ → Bool
goes_on [] = false
goes_on (b ∷ []) = is_word_byte b
goes_on (b ∷ c ∷ rest) = is_word_byte b || ((b == backslash) && is_escaped c)

-- so many `!`
abbrev pub bangs : ℕ → List ℕ
bangs zero = []
bangs (suc n) = bang ∷ bangs n

-- A word, with how many `!` stand directly before it, or a mark; `spaced` says whether blanks stand
-- before.
pub data Tok : Type 0 where
  word : (spaced : Bool) → (bangs : ℕ) → (text : List ℕ) → Tok
  mark : (spaced : Bool) → (byte : ℕ) → Tok

abbrev pub is_spaced : Tok → Bool
is_spaced (word spaced n text) = spaced
is_spaced (mark spaced byte) = spaced

abbrev pub text_of : Tok → List ℕ
text_of (word spaced n text) = bangs n ++ text
text_of (mark spaced byte) = byte ∷ []

-- whether there is any blank
abbrev pub is_some_blank : List ℕ → Bool
is_some_blank [] = false
is_some_blank (b ∷ bs) = true

-- the token is well formed, and ends where the rest begins
abbrev pub IsTok : Tok → List ℕ → Type 0
IsTok (word spaced n text) rest =
    (0 < length text) × (is_word_text text ≡ true) × (goes_on rest ≡ false)
IsTok (mark spaced byte) rest = is_mark byte ≡ true

-- The bytes are these tokens in order, with blanks before those that say so, and perhaps after the
-- last.
abbrev pub Lexes : List ℕ → List Tok → Type 0
Lexes bytes [] = Each is_blank bytes
Lexes bytes (t ∷ ts) =
    (blanks rest : List ℕ) × Each is_blank blanks × (is_spaced t ≡ is_some_blank blanks)
    × IsTok t rest × (bytes ≡ blanks ++ (text_of t ++ rest)) × Lexes rest ts
