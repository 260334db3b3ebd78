-- The text of a word, read part by part, and its bytes as text.
use Rattle.std.proofs.Common.{eqb, ◌≡◌, ℕ, zero, suc, ◌<◌, true, false, List, [], ◌∷◌, ◌++◌, length, refl, sym, ap, ◌∙◌, append_assoc, ◌-◌, take, drop, arith}
use Rattle.std.specs.Str.{IsAscii, IsUtf8}
use Rattle.std.proofs.lemmas.Str.{IsUtf8-from_ascii}
use Rattle.std.proofs.lemmas.List.{length-append}
use Rattle.std.proofs.Math.Seq.{take-append_seam, drop-append_seam}
use Rattle.std.proofs.lemmas.Bool.{and_from}
use Rattle.std.proofs.lemmas.Bool.Decides.{nat_tests}
use Rattle.sudo_words.specs.Bytes.{backslash}
use Rattle.sudo_words.specs.Command.{is_escaped}
use Rattle.sudo_policy.specs.Lex.{is_word_byte, is_word_text, goes_on}
use Rattle.sudo_syntax.specs.private.Tokens.{IsBehindPart, IsWordCut}
use Rattle.sudo_policy.proofs.WordTexts.{word_no_backslash, backslash_parts, byte_parts}

-- ---- bytes

word_ascii : (b : ℕ) → is_word_byte b ≡ true → b < 128
word_ascii b h = grind (arith, nat_tests)

escaped_ascii : (b : ℕ) → is_escaped b ≡ true → b < 128
escaped_ascii b h = grind (arith, nat_tests)

backslash_ascii : (b : ℕ) → eqb b backslash ≡ true → b < 128
backslash_ascii b h = grind (arith, nat_tests)

-- ---- parts joined

backslash_text : (x y : ℕ) (w : List ℕ) → eqb x backslash ≡ true → is_escaped y ≡ true → is_word_text w ≡ true → is_word_text (x ∷ y ∷ w) ≡ true
backslash_text x y w e h k = rw e (and_from _ _ h k)

pub byte_text : (x : ℕ) (w : List ℕ) → is_word_byte x ≡ true → is_word_text w ≡ true → is_word_text (x ∷ w) ≡ true
byte_text x [] h k = h
byte_text x (y ∷ w) h k = let e = word_no_backslash x h in rw e (and_from _ _ h k)

-- one text behind another
pub text_append : (v w : List ℕ) → is_word_text v ≡ true → is_word_text w ≡ true → is_word_text (v ++ w) ≡ true
text_append [] w h k = k
text_append (x ∷ []) w h k = byte_text x w h k
text_append (x ∷ y ∷ v) w h k = elim (eqb x backslash) as (λ b. eqb x backslash ≡ b → is_word_text (x ∷ y ∷ (v ++ w)) ≡ true) [
  | true ↦ λ e. let p = backslash_parts x y v e h in backslash_text x y (v ++ w) e p.0 (text_append v w p.1 k)
  | false ↦ λ e. let p = byte_parts x y v e h in byte_text x (y ∷ (v ++ w)) p.0 (text_append (y ∷ v) w p.1 k)
] refl

-- a word is text
ascii_more : (x : ℕ) (w : List ℕ) → x < 128 → IsAscii w → IsAscii (x ∷ w)
ascii_more x w h k zero = h
ascii_more x w h k (suc i) = k i

ascii : (w : List ℕ) → is_word_text w ≡ true → IsAscii w
ascii [] h = λ i. omega arith
ascii (x ∷ []) h = ascii_more x [] (word_ascii x h) (ascii [] refl)
ascii (x ∷ y ∷ w) h = elim (eqb x backslash) as (λ b. eqb x backslash ≡ b → IsAscii (x ∷ y ∷ w)) [
  | true ↦ λ e. let p = backslash_parts x y w e h in ascii_more x (y ∷ w) (backslash_ascii x e) (ascii_more y w (escaped_ascii y p.0) (ascii w p.1))
  | false ↦ λ e. let p = byte_parts x y w e h in ascii_more x (y ∷ w) (word_ascii x p.0) (ascii (y ∷ w) p.1)
] refl

pub word_utf8 : (w : List ℕ) → is_word_text w ≡ true → IsUtf8 w
word_utf8 w h = IsUtf8-from_ascii w (ascii w h)

-- ---- a word read part by part

-- the bytes are a text of a word, and a rest that may go on with it
pub record IsFront (bytes front rest : List ℕ) : Type 0 where
  pub whole : bytes ≡ front ++ rest
  pub text : is_word_text front ≡ true

pub front_more : (bytes front rest part after : List ℕ) → IsFront bytes front rest → IsBehindPart rest part after → IsFront bytes (front ++ part) after
front_more bytes front rest part after f p = record {
  whole = f.whole ∙ ap (λ (t : List ℕ). front ++ t) p.whole ∙ sym (append_assoc front part after);
  text = text_append front part f.text p.text;
}

-- the whole word, by its length
pub front_end : (bytes front rest : List ℕ) → IsFront bytes front rest → goes_on rest ≡ false
    → IsWordCut bytes (take (length bytes - length rest) bytes) (drop (length bytes - length rest) bytes)
front_end bytes front rest f stop =
    let size : length bytes - length rest ≡ length front = omega (arith, ap length f.whole, length-append front rest) in
    let left : take (length bytes - length rest) bytes ≡ front = rw (size, f.whole) (take-append_seam front rest) in
    let right : drop (length bytes - length rest) bytes ≡ rest = rw (size, f.whole) (drop-append_seam front rest) in
    record {
      whole = f.whole ∙ ap (λ (t : List ℕ). t ++ rest) (sym left) ∙ ap (λ (t : List ℕ). take (length bytes - length rest) bytes ++ t) (sym right);
      text = ap is_word_text left ∙ f.text;
      stops = ap goes_on right ∙ stop;
    }
