-- The bytes of a line that is read as tokens: blanks, `!`, marks and those of words. It does not end in a backslash.
use Rattle.std.proofs.Common.{◌≡◌, ℕ, zero, suc, ◌-◌, Bool, true, false, cond, eqb, ◌&&◌, List, [], ◌∷◌}
use Rattle.std.proofs.Common.{◌++◌, length, get_or, refl, sym, ap, subst, ◌∙◌, inl, inr, append-nil, arith}
use Rattle.std.specs.List.{AllByRecursion}
use Rattle.std.proofs.lemmas.Bool.{and_parts, cases_Bool, eqb-true}
use Rattle.std.proofs.lemmas.Bool.Decides.{nat_tests}
use Rattle.sudo_words.specs.Bytes as named
use Rattle.sudo_words.specs.Command.{is_escaped}
use Rattle.sudo_policy.specs.Span.{Each}
use Rattle.sudo_policy.specs.Lex.{is_text_byte, is_blank, is_mark, is_word_byte, is_word_text, bangs, Tok, word, mark, Lexes}
use Rattle.sudo_policy.specs.Lines.{last_passes, is_no_hash}
use Rattle.sudo_policy.proofs.LineTexts.{is_backslash}

-- ---- what holds of each byte

-- a fact of each byte of such lines
pub record HoldsInLines (P : ℕ → Type 0) : Type 1 where
  pub blank : (b : ℕ) → is_blank b ≡ true → P b
  pub marks : (b : ℕ) → is_mark b ≡ true → P b
  pub words : (b : ℕ) → is_word_byte b ≡ true → P b
  pub escaped : (b : ℕ) → is_escaped b ≡ true → P b
  pub bang : P named.bang
  pub backslash : P named.backslash

pub all_append : (P : ℕ → Type 0) (a b : List ℕ) → AllByRecursion P a → AllByRecursion P b → AllByRecursion P (a ++ b)
all_append P [] b h k = k
all_append P (x ∷ a) b h k = (h.0, all_append P a b h.1 k)

all_each : (P : ℕ → Type 0) (p : ℕ → Bool) → ((b : ℕ) → p b ≡ true → P b) → (w : List ℕ) → Each p w → AllByRecursion P w
all_each P p holds [] h = tt
all_each P p holds (b ∷ bs) h = (holds b h.0, all_each P p holds bs h.1)

pub each_of : (p : ℕ → Bool) (w : List ℕ) → AllByRecursion (λ b. p b ≡ true) w → Each p w
each_of p [] h = tt
each_of p (b ∷ bs) h = (h.0, each_of p bs h.1)

bangs_all : (P : ℕ → Type 0) → P named.bang → (n : ℕ) → AllByRecursion P (bangs n)
bangs_all P h zero = tt
bangs_all P h (suc n) = (h, bangs_all P h n)

word_all : (P : ℕ → Type 0) → HoldsInLines P → (w : List ℕ) → is_word_text w ≡ true → AllByRecursion P w
word_all P in_line [] h = tt
word_all P in_line (b ∷ []) h = (in_line.words b h, tt)
word_all P in_line (b ∷ c ∷ rest) h =
    elim (cases_Bool (eqb b named.backslash)) [
      | inl e ↦
          let both = and_parts (is_escaped c) (is_word_text rest)
          (sym (ap (λ (v : Bool). cond v (is_escaped c && is_word_text rest) (is_word_byte b && is_word_text (c ∷ rest))) e) ∙ h) in
          (subst P (sym (eqb-true b named.backslash e)) in_line.backslash, (in_line.escaped c both.0, word_all P in_line rest both.1))
      | inr e ↦
          let both = and_parts (is_word_byte b) (is_word_text (c ∷ rest))
          (sym (ap (λ (v : Bool). cond v (is_escaped c && is_word_text rest) (is_word_byte b && is_word_text (c ∷ rest))) e) ∙ h) in
          (in_line.words b both.0, word_all P in_line (c ∷ rest) both.1)
    ]

pub lexed_bytes : (P : ℕ → Type 0) → HoldsInLines P → (line : List ℕ) (ts : List Tok) → Lexes line ts → AllByRecursion P line
lexed_bytes P in_line line [] h = all_each P is_blank in_line.blank line h
lexed_bytes P in_line line (word a n w ∷ ts) h =
    subst (AllByRecursion P) (sym h.5)
    (all_append P h.0 ((bangs n ++ w) ++ h.1) (all_each P is_blank in_line.blank h.0 h.2)
    (all_append P (bangs n ++ w) h.1 (all_append P (bangs n) w (bangs_all P in_line.bang n) (word_all P in_line w h.4.1)) (lexed_bytes P in_line h.1 ts h.6)))
lexed_bytes P in_line line (mark a m ∷ ts) h =
    subst (AllByRecursion P) (sym h.5)
    (all_append P h.0 (m ∷ h.1) (all_each P is_blank in_line.blank h.0 h.2) (in_line.marks m h.4, lexed_bytes P in_line h.1 ts h.6))

-- ---- they are bytes of a text, and neither a newline nor a `#`

blank_text : (b : ℕ) → is_blank b ≡ true → is_text_byte b ≡ true
blank_text b h = grind (arith, nat_tests)

mark_text : (b : ℕ) → is_mark b ≡ true → is_text_byte b ≡ true
mark_text b h = grind (arith, nat_tests)

word_text : (b : ℕ) → is_word_byte b ≡ true → is_text_byte b ≡ true
word_text b h = grind (arith, nat_tests)

escaped_text : (b : ℕ) → is_escaped b ≡ true → is_text_byte b ≡ true
escaped_text b h = grind (arith, nat_tests)

pub text_in_lines : HoldsInLines (λ b. is_text_byte b ≡ true)
text_in_lines = record { blank = blank_text; marks = mark_text; words = word_text; escaped = escaped_text; bang = refl; backslash = refl }

blank_feed : (b : ℕ) → is_blank b ≡ true → eqb b named.newline ≡ false
blank_feed b h = grind (arith, nat_tests)

mark_feed : (b : ℕ) → is_mark b ≡ true → eqb b named.newline ≡ false
mark_feed b h = grind (arith, nat_tests)

word_feed : (b : ℕ) → is_word_byte b ≡ true → eqb b named.newline ≡ false
word_feed b h = grind (arith, nat_tests)

escaped_feed : (b : ℕ) → is_escaped b ≡ true → eqb b named.newline ≡ false
escaped_feed b h = grind (arith, nat_tests)

pub no_feed_in_lines : HoldsInLines (λ b. eqb b named.newline ≡ false)
no_feed_in_lines = record { blank = blank_feed; marks = mark_feed; words = word_feed; escaped = escaped_feed; bang = refl; backslash = refl }

blank_hash : (b : ℕ) → is_blank b ≡ true → is_no_hash b ≡ true
blank_hash b h = grind (arith, nat_tests)

mark_hash : (b : ℕ) → is_mark b ≡ true → is_no_hash b ≡ true
mark_hash b h = grind (arith, nat_tests)

word_hash : (b : ℕ) → is_word_byte b ≡ true → is_no_hash b ≡ true
word_hash b h = grind (arith, nat_tests)

escaped_hash : (b : ℕ) → is_escaped b ≡ true → is_no_hash b ≡ true
escaped_hash b h = grind (arith, nat_tests)

pub no_hash_in_lines : HoldsInLines (λ b. is_no_hash b ≡ true)
no_hash_in_lines = record { blank = blank_hash; marks = mark_hash; words = word_hash; escaped = escaped_hash; bang = refl; backslash = refl }

-- ---- the last byte

ends_later : (p : ℕ → Bool) (x y : ℕ) (ys : List ℕ) → last_passes p (x ∷ y ∷ ys) ≡ last_passes p (y ∷ ys)
ends_later p x y ys =
    let long : length (x ∷ y ∷ ys) - 1 ≡ suc (length ys) = omega arith in
    let short : length (y ∷ ys) - 1 ≡ length ys = omega arith in
    ap (λ (i : ℕ). p (get_or (x ∷ y ∷ ys) i 0)) long ∙ ap (λ (i : ℕ). p (get_or (y ∷ ys) i 0)) (sym short)

ends_behind : (p : ℕ → Bool) (xs : List ℕ) (y : ℕ) (ys : List ℕ) → last_passes p (xs ++ y ∷ ys) ≡ last_passes p (y ∷ ys)
ends_behind p [] y ys = refl
ends_behind p (x ∷ []) y ys = ends_later p x y ys
ends_behind p (x ∷ z ∷ xs) y ys = ends_later p x z (xs ++ y ∷ ys) ∙ ends_behind p (z ∷ xs) y ys

ends_append : (p : ℕ → Bool) (xs ys : List ℕ) → last_passes p xs ≡ false → last_passes p ys ≡ false → last_passes p (xs ++ ys) ≡ false
ends_append p xs [] h k = ap (last_passes p) (append-nil xs) ∙ h
ends_append p xs (y ∷ ys) h k = ends_behind p xs y ys ∙ k

blank_no_backslash : (b : ℕ) → is_blank b ≡ true → is_backslash b ≡ false
blank_no_backslash b h = grind (arith, nat_tests)

mark_no_backslash : (b : ℕ) → is_mark b ≡ true → is_backslash b ≡ false
mark_no_backslash b h = grind (arith, nat_tests)

word_no_backslash : (b : ℕ) → is_word_byte b ≡ true → is_backslash b ≡ false
word_no_backslash b h = grind (arith, nat_tests)

escaped_no_backslash : (b : ℕ) → is_escaped b ≡ true → is_backslash b ≡ false
escaped_no_backslash b h = grind (arith, nat_tests)

blanks_end : (w : List ℕ) → Each is_blank w → last_passes is_backslash w ≡ false
blanks_end [] h = refl
blanks_end (b ∷ []) h = blank_no_backslash b h.0
blanks_end (b ∷ c ∷ w) h = ends_later is_backslash b c w ∙ blanks_end (c ∷ w) h.1

bangs_end : (n : ℕ) → last_passes is_backslash (bangs n) ≡ false
bangs_end zero = refl
bangs_end (suc n) = ends_append is_backslash (named.bang ∷ []) (bangs n) refl (bangs_end n)

word_end : (w : List ℕ) → is_word_text w ≡ true → last_passes is_backslash w ≡ false
word_end [] h = refl
word_end (b ∷ []) h = word_no_backslash b h
word_end (b ∷ c ∷ rest) h =
    elim (cases_Bool (eqb b named.backslash)) [
      | inl e ↦
          let both = and_parts (is_escaped c) (is_word_text rest)
          (sym (ap (λ (v : Bool). cond v (is_escaped c && is_word_text rest) (is_word_byte b && is_word_text (c ∷ rest))) e) ∙ h) in
          ends_later is_backslash b c rest ∙ ends_append is_backslash (c ∷ []) rest (escaped_no_backslash c both.0) (word_end rest both.1)
      | inr e ↦
          let both = and_parts (is_word_byte b) (is_word_text (c ∷ rest))
          (sym (ap (λ (v : Bool). cond v (is_escaped c && is_word_text rest) (is_word_byte b && is_word_text (c ∷ rest))) e) ∙ h) in
          ends_later is_backslash b c rest ∙ word_end (c ∷ rest) both.1
    ]

pub lexed_end : (line : List ℕ) (ts : List Tok) → Lexes line ts → last_passes is_backslash line ≡ false
lexed_end line [] h = blanks_end line h
lexed_end line (word a n w ∷ ts) h =
    ap (last_passes is_backslash) h.5
    ∙ ends_append is_backslash h.0 ((bangs n ++ w) ++ h.1) (blanks_end h.0 h.2)
    (ends_append is_backslash (bangs n ++ w) h.1 (ends_append is_backslash (bangs n) w (bangs_end n) (word_end w h.4.1)) (lexed_end h.1 ts h.6))
lexed_end line (mark a m ∷ ts) h =
    ap (last_passes is_backslash) h.5
    ∙ ends_append is_backslash h.0 (m ∷ h.1) (blanks_end h.0 h.2) (ends_append is_backslash (m ∷ []) h.1 (mark_no_backslash m h.4) (lexed_end h.1 ts h.6))
