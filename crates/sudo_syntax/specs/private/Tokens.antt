-- The tokens that the reader keeps, and how it takes them one by one from a line.
use Rattle.std.specs.Prelude.{◌≡◌, ℕ, ◌<◌, Bool, true, false, List, [], ◌++◌, length, map}
use Rattle.sudo_words.specs.Bytes.{equals, comma, colon, opening, closing, quote}
use Rattle.sudo_policy.specs.Lex.{Tok, word, mark, Lexes, is_word_text, goes_on}
use Rattle.sudo_syntax.specs.declared.token.Token.{Token}
use Rattle.sudo_syntax.specs.declared.token.TokenKind.{TokenKind}
use Rattle.sudo_syntax.specs.declared.token.TokenKind.TheVariants as kinds
use Rattle.sudo_syntax.specs.declared.token.Mark.{Mark}
use Rattle.sudo_syntax.specs.declared.token.Mark.TheVariants as marks

-- the byte that a mark is
abbrev pub mark_byte : Mark → ℕ
mark_byte marks.Equals = equals
mark_byte marks.Comma = comma
mark_byte marks.Colon = colon
mark_byte marks.Opening = opening
mark_byte marks.Closing = closing
mark_byte marks.Quote = quote

-- a token of the code, without where its bytes lie
abbrev pub kind_tok : Bool → TokenKind → Tok
kind_tok spaced (kinds.Word bangs text) = word spaced bangs text.now
kind_tok spaced (kinds.Mark m) = mark spaced (mark_byte m)

abbrev pub tok : Token → Tok
tok t = kind_tok t.spaced t.kind

abbrev pub toks : List Token → List Tok
toks ts = map tok ts

-- the bytes have no token
pub record IsLast (bytes : List ℕ) : Type 0 where
  pub empty : Lexes bytes []
  pub only : (ts : List Tok) → Lexes bytes ts → ts ≡ []

-- the bytes are not words and marks
abbrev pub NoLexing : List ℕ → Type 0
NoLexing bytes = (ts : List Tok) → Lexes bytes ts → ⊥

-- the bytes are the text of a word, which may be empty, and a rest that does not go on with it
pub record IsWordCut (bytes word rest : List ℕ) : Type 0 where
  pub whole : bytes ≡ word ++ rest
  pub text : is_word_text word ≡ true
  pub stops : goes_on rest ≡ false

-- the bytes are a part of a word, and a rest
pub record IsBehindPart (bytes part rest : List ℕ) : Type 0 where
  pub whole : bytes ≡ part ++ rest
  pub text : is_word_text part ≡ true
  pub some : 0 < length part
