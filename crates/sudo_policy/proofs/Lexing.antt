-- The first token of a line is found in one way.
use Rattle.std.proofs.Common.{eqb, ◌≡◌, ℕ, zero, suc, ◌<◌, Bool, true, false, List, [], ◌∷◌, ◌++◌}
use Rattle.std.proofs.Common.{length, refl, sym, ap, subst, ◌∙◌, inl, inr, append_assoc, arith}
use Rattle.std.proofs.lemmas.Bool.{false≢true}
use Rattle.std.proofs.lemmas.Bool.Decides.{nat_tests}
use Rattle.std.proofs.lemmas.List.{append-nil, length-append}
use Rattle.sudo_words.specs.Bytes.{backslash}
use Rattle.sudo_policy.specs.Span.{Each}
use Rattle.sudo_policy.specs.private.Cuts.{IsCut, IsFirstToken, Stops, is_bang}
use Rattle.sudo_policy.specs.Lex.{is_blank, is_mark, is_word_byte, is_word_text, goes_on, bangs}
use Rattle.sudo_policy.specs.Lex.{is_some_blank, is_spaced, Tok, word, mark, text_of, IsTok, Lexes}
use Rattle.sudo_policy.proofs.Spans.{one_cut}
use Rattle.sudo_policy.proofs.WordTexts.{begins, one_word}

-- ---- bytes

mark_no_blank : (m : ℕ) → is_mark m ≡ true → is_blank m ≡ false
mark_no_blank m h = grind (arith, nat_tests)

word_no_blank : (b : ℕ) → is_word_byte b ≡ true → is_blank b ≡ false
word_no_blank b h = grind (arith, nat_tests)

backslash_no_blank : (b : ℕ) → eqb b backslash ≡ true → is_blank b ≡ false
backslash_no_blank b h = grind (arith, nat_tests)

word_no_mark : (b : ℕ) → is_word_byte b ≡ true → is_mark b ≡ false
word_no_mark b h = grind (arith, nat_tests)

backslash_no_mark : (b : ℕ) → eqb b backslash ≡ true → is_mark b ≡ false
backslash_no_mark b h = grind (arith, nat_tests)

word_no_bang : (b : ℕ) → is_word_byte b ≡ true → is_bang b ≡ false
word_no_bang b h = grind (arith, nat_tests)

backslash_no_bang : (b : ℕ) → eqb b backslash ≡ true → is_bang b ≡ false
backslash_no_bang b h = grind (arith, nat_tests)

-- the first byte of a word's text
no_blank : (x : ℕ) (w : List ℕ) → is_word_text (x ∷ w) ≡ true → is_blank x ≡ false
no_blank x w h = elim (begins x w h) [ inl e ↦ word_no_blank x e | inr e ↦ backslash_no_blank x e ]

no_mark : (x : ℕ) (w : List ℕ) → is_word_text (x ∷ w) ≡ true → is_mark x ≡ false
no_mark x w h = elim (begins x w h) [ inl e ↦ word_no_mark x e | inr e ↦ backslash_no_mark x e ]

no_bang : (x : ℕ) (w : List ℕ) → is_word_text (x ∷ w) ≡ true → is_bang x ≡ false
no_bang x w h = elim (begins x w h) [ inl e ↦ word_no_bang x e | inr e ↦ backslash_no_bang x e ]

-- ---- what stands before a word

pub each_bang : (n : ℕ) → Each is_bang (bangs n)
each_bang zero = tt
each_bang (suc n) = (refl, each_bang n)

length_bangs : (n : ℕ) → length (bangs n) ≡ n
length_bangs zero = refl
length_bangs (suc n) = ap suc (length_bangs n)

pub stops_bangs : (w rest : List ℕ) → 0 < length w → is_word_text w ≡ true → Stops is_bang (w ++ rest)
stops_bangs [] rest some h = absurd (omega arith)
stops_bangs (x ∷ w) rest some h = no_bang x w h

-- how many `!` stand before a word is read in one way
one_bangs : (n m : ℕ) (v w r s : List ℕ) → 0 < length v → is_word_text v ≡ true → 0 < length w
    → is_word_text w ≡ true → (bangs n ++ v) ++ r ≡ (bangs m ++ w) ++ s → (n ≡ m) × (v ++ r ≡ w ++ s)
one_bangs n m v w r s some_v text_v some_w text_w e =
    let same = sym (append_assoc (bangs n) v r) ∙ e ∙ append_assoc (bangs m) w s in
    let cut = one_cut is_bang (bangs n) (v ++ r) (bangs m) (w ++ s) (each_bang n)
    (stops_bangs v r some_v text_v) (each_bang m) (stops_bangs w s some_w text_w) same in
    (sym (length_bangs n) ∙ ap length cut.0 ∙ length_bangs m, cut.1)

-- ---- what follows the blanks

-- a token does not begin with a blank
pub starts : (t : Tok) (rest : List ℕ) → IsTok t rest → Stops is_blank (text_of t ++ rest)
starts (word a zero []) rest h = let bad : 0 < 0 = h.0 in absurd (omega arith)
starts (word a zero (x ∷ w)) rest h = no_blank x w h.1
starts (word a (suc n) w) rest h = refl
starts (mark a m) rest h = mark_no_blank m h

-- a word, with the `!` before it, does not begin with a mark
word_starts : (n : ℕ) (w rest : List ℕ) → 0 < length w → is_word_text w ≡ true → Stops is_mark ((bangs n ++ w) ++ rest)
word_starts zero [] rest some h = absurd (omega arith)
word_starts zero (x ∷ w) rest some h = no_mark x w h
word_starts (suc n) w rest some h = refl

-- so it is not a mark
word_or_mark : (n : ℕ) (w rest s : List ℕ) (m : ℕ) → 0 < length w → is_word_text w ≡ true → is_mark m ≡ true → (bangs n ++ w) ++ rest ≡ m ∷ s → ⊥
word_or_mark n w rest s m some text is e = false≢true (sym (subst (Stops is_mark) e (word_starts n w rest some text)) ∙ is)

-- and it is not empty
word_some : (n : ℕ) (w rest : List ℕ) → 0 < length w → (bangs n ++ w) ++ rest ≡ [] → ⊥
word_some zero [] rest some e = omega arith
word_some zero (x ∷ w) rest some e = absurd cc
word_some (suc n) w rest some e = absurd cc

-- bytes that are blanks and then s: in each reading s begins with the first token, which says whether there are blanks before it
pub after : (bytes blanks s : List ℕ) → IsCut is_blank bytes blanks s
    → (t : Tok) (ts : List Tok) (h : Lexes bytes (t ∷ ts)) → (s ≡ text_of t ++ h.1) × (is_spaced t ≡ is_some_blank blanks)
after bytes blanks s c t ts h =
    let p = one_cut is_blank blanks s h.0 (text_of t ++ h.1) c.each c.stops h.2 (starts t h.1 h.4) (sym c.whole ∙ h.5) in
    (p.1, h.3 ∙ ap is_some_blank (sym p.0))

pub only_blanks : (bytes blanks s : List ℕ) → IsCut is_blank bytes blanks s → Each is_blank bytes → s ≡ []
only_blanks bytes blanks s c each =
    (one_cut is_blank blanks s bytes [] c.each c.stops each tt (sym c.whole ∙ sym (append-nil bytes))).1

-- one more token in front
adds : (bytes blanks s : List ℕ) → IsCut is_blank bytes blanks s → (t : Tok) (rest : List ℕ) → is_spaced t ≡ is_some_blank blanks
    → IsTok t rest → s ≡ text_of t ++ rest → (ts : List Tok) → Lexes rest ts → Lexes bytes (t ∷ ts)
adds bytes blanks s c t rest gap is e ts h = (blanks, rest, c.each, gap, is, c.whole ∙ ap (λ (r : List ℕ). blanks ++ r) e, h)

-- ---- the end

pub end_only : (bytes blanks s : List ℕ) → IsCut is_blank bytes blanks s → s ≡ [] → (ts : List Tok) → Lexes bytes ts → ts ≡ []
end_only bytes blanks s c e [] h = refl
end_only bytes blanks s c e (word a n w ∷ ts) h =
    let t = (after bytes blanks s c (word a n w) ts h).0 in
    absurd (word_some n w h.1 h.4.0 (sym t ∙ e))
end_only bytes blanks s c e (mark a m ∷ ts) h = let t = (after bytes blanks s c (mark a m) ts h).0 in absurd cc

-- ---- marks

mark_only : (bytes blanks s : List ℕ) → IsCut is_blank bytes blanks s → (gap : Bool) (m : ℕ) (rest : List ℕ) → gap ≡ is_some_blank blanks
    → is_mark m ≡ true → s ≡ m ∷ rest → (ts : List Tok) → Lexes bytes ts → (more : List Tok) × (ts ≡ mark gap m ∷ more) × Lexes rest more
mark_only bytes blanks s c gap m rest g is e [] h = let t = only_blanks bytes blanks s c h in absurd cc
mark_only bytes blanks s c gap m rest g is e (word a n w ∷ ts) h =
    let t = (after bytes blanks s c (word a n w) ts h).0 in
    absurd (word_or_mark n w h.1 rest m h.4.0 h.4.1 is (sym t ∙ e))
mark_only bytes blanks s c gap m rest g is e (mark a k ∷ ts) h =
    let t = after bytes blanks s c (mark a k) ts h in
    let two = sym e ∙ t.0 in
    let same : k ≡ m = cc in
    let gaps : a ≡ gap = t.1 ∙ sym g in
    let left : h.1 ≡ rest = cc in
    (ts, ap (λ (x : Bool). mark x k ∷ ts) gaps ∙ ap (λ (x : ℕ). mark gap x ∷ ts) same, subst (λ (r : List ℕ). Lexes r ts) left h.6)

-- a mark after the blanks
pub lex_mark : (bytes blanks s : List ℕ) → IsCut is_blank bytes blanks s → (gap : Bool) (m : ℕ) (rest : List ℕ)
    → gap ≡ is_some_blank blanks → is_mark m ≡ true → s ≡ m ∷ rest → IsFirstToken bytes (mark gap m) rest
lex_mark bytes blanks s c gap m rest g is e = record {
  adds = adds bytes blanks s c (mark gap m) rest g is e;
  only = mark_only bytes blanks s c gap m rest g is e;
  shorter = omega (arith, ap length c.whole, length-append blanks s, ap length e);
}

-- ---- words

-- what follows the blanks: so many `!`, and a word
pub record IsWordAt (s : List ℕ) (n : ℕ) (w rest : List ℕ) : Type 0 where
  pub whole : s ≡ (bangs n ++ w) ++ rest
  pub is : (0 < length w) × (is_word_text w ≡ true) × (goes_on rest ≡ false)

word_only : (bytes blanks s : List ℕ) → IsCut is_blank bytes blanks s → (gap : Bool) (n : ℕ) (w rest : List ℕ) → gap ≡ is_some_blank blanks
    → IsWordAt s n w rest → (ts : List Tok) → Lexes bytes ts → (more : List Tok) × (ts ≡ word gap n w ∷ more) × Lexes rest more
word_only bytes blanks s c gap n w rest g d [] h = absurd (word_some n w rest d.is.0 (sym d.whole ∙ only_blanks bytes blanks s c h))
word_only bytes blanks s c gap n w rest g d (mark a k ∷ ts) h =
    let t = (after bytes blanks s c (mark a k) ts h).0 in
    absurd (word_or_mark n w rest h.1 k d.is.0 d.is.1 h.4 (sym d.whole ∙ t))
word_only bytes blanks s c gap n w rest g d (word a m v ∷ ts) h =
    let t = after bytes blanks s c (word a m v) ts h in
    let front = one_bangs m n v w h.1 rest h.4.0 h.4.1 d.is.0 d.is.1 (sym t.0 ∙ d.whole) in
    let one = one_word v h.1 w rest h.4.1 h.4.2 d.is.1 d.is.2 front.1 in
    let gaps : a ≡ gap = t.1 ∙ sym g in (
      ts,
      ap (λ (x : Bool). word x m v ∷ ts) gaps ∙ ap (λ (x : ℕ). word gap x v ∷ ts) front.0 ∙ ap (λ (u : List ℕ). word gap n u ∷ ts) one.0,
      subst (λ (r : List ℕ). Lexes r ts) one.1 h.6,
    )

pub lex_word_at : (bytes blanks s : List ℕ) → IsCut is_blank bytes blanks s → (gap : Bool) (n : ℕ) (w rest : List ℕ)
    → gap ≡ is_some_blank blanks → IsWordAt s n w rest → IsFirstToken bytes (word gap n w) rest
lex_word_at bytes blanks s c gap n w rest g d = record {
  adds = adds bytes blanks s c (word gap n w) rest g d.is d.whole;
  only = word_only bytes blanks s c gap n w rest g d;
  shorter = omega (arith, d.is.0, ap length c.whole, length-append blanks s, ap length d.whole, length-append (bangs n ++ w) rest, length-append (bangs n) w);
}

-- ---- one reading

first_of_reading : (bytes : List ℕ) (t : Tok) (ts : List Tok) (h : Lexes bytes (t ∷ ts)) → IsFirstToken bytes t h.1
first_of_reading bytes (word a n w) ts h =
    lex_word_at bytes h.0 ((bangs n ++ w) ++ h.1) (record { whole = h.5; each = h.2; stops = starts (word a n w) h.1 h.4 }) a n w h.1 h.3
    (record { whole = refl; is = h.4 })
first_of_reading bytes (mark a m) ts h =
    lex_mark bytes h.0 (m ∷ h.1) (record { whole = h.5; each = h.2; stops = starts (mark a m) h.1 h.4 }) a m h.1 h.3 h.4 refl

pub lex_one : (line : List ℕ) (a b : List Tok) → Lexes line a → Lexes line b → a ≡ b
lex_one line [] b h k = sym (end_only line line [] (record { whole = sym (append-nil line); each = h; stops = tt }) refl b k)
lex_one line (t ∷ ts) b h k =
    let other = (first_of_reading line t ts h).only b k in
    let rest = lex_one h.1 ts other.0 h.6 other.2 in
    ap (λ (more : List Tok). t ∷ more) rest ∙ sym other.1
