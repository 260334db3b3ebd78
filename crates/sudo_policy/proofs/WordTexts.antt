-- The text of a word is cut from the bytes after it in one way.
use Rattle.std.proofs.Common.{eqb, ◌≡◌, ℕ, true, false, ◌⊎◌, inl, inr, List, [], ◌∷◌, ◌++◌, refl, sym, ap, ◌∙◌, arith}
use Rattle.std.proofs.lemmas.Bool.{false≢true, and_parts, and_from, or_left, or_right}
use Rattle.std.proofs.lemmas.Bool.Decides.{nat_tests}
use Rattle.sudo_words.specs.Bytes.{backslash}
use Rattle.sudo_words.specs.Command.{is_escaped}
use Rattle.sudo_policy.specs.Lex.{is_word_byte, is_word_text, goes_on}

-- ---- bytes

pub word_no_backslash : (b : ℕ) → is_word_byte b ≡ true → eqb b backslash ≡ false
word_no_backslash b h = grind (arith, nat_tests)

-- ---- the parts of a word's text: a byte, or a backslash and the byte that it escapes

pub backslash_parts : (x y : ℕ) (w : List ℕ) → eqb x backslash ≡ true → is_word_text (x ∷ y ∷ w) ≡ true → (is_escaped y ≡ true) × (is_word_text w ≡ true)
backslash_parts x y w e h = and_parts _ _ (rw e at h)

pub byte_parts : (x y : ℕ) (w : List ℕ) → eqb x backslash ≡ false → is_word_text (x ∷ y ∷ w) ≡ true → (is_word_byte x ≡ true) × (is_word_text (y ∷ w) ≡ true)
byte_parts x y w e h = and_parts _ _ (rw e at h)

-- how a text begins
pub begins : (x : ℕ) (w : List ℕ) → is_word_text (x ∷ w) ≡ true → (is_word_byte x ≡ true) ⊎ (eqb x backslash ≡ true)
begins x [] h = inl h
begins x (y ∷ w) h = elim (eqb x backslash) as (λ b. eqb x backslash ≡ b → (is_word_byte x ≡ true) ⊎ (eqb x backslash ≡ true)) [
  | true ↦ λ e. inr e
  | false ↦ λ e. inl (byte_parts x y w e h).0
] refl

byte_goes_on : (x : ℕ) (rest : List ℕ) → is_word_byte x ≡ true → goes_on (x ∷ rest) ≡ true
byte_goes_on x [] h = h
byte_goes_on x (y ∷ rest) h = or_left _ _ h

-- a word goes on with a text
pub text_goes_on : (x : ℕ) (w rest : List ℕ) → is_word_text (x ∷ w) ≡ true → goes_on (x ∷ (w ++ rest)) ≡ true
text_goes_on x [] rest h = byte_goes_on x rest h
text_goes_on x (y ∷ w) rest h = elim (eqb x backslash) as (λ b. eqb x backslash ≡ b → goes_on (x ∷ y ∷ (w ++ rest)) ≡ true) [
  | true ↦ λ e. or_right _ _ (and_from _ _ e (backslash_parts x y w e h).0)
  | false ↦ λ e. byte_goes_on x (y ∷ (w ++ rest)) (byte_parts x y w e h).0
] refl

-- ---- one cut

pub one_word : (v r w s : List ℕ) → is_word_text v ≡ true → goes_on r ≡ false → is_word_text w ≡ true → goes_on s ≡ false → v ++ r ≡ w ++ s → (v ≡ w) × (r ≡ s)
one_word [] r [] s text_v stop_r text_w stop_s e = (refl, e)
one_word [] r (y ∷ w) s text_v stop_r text_w stop_s e = absurd (false≢true (sym stop_r ∙ ap goes_on e ∙ text_goes_on y w s text_w))
one_word (x ∷ v) r [] s text_v stop_r text_w stop_s e = absurd (false≢true (sym stop_s ∙ ap goes_on (sym e) ∙ text_goes_on x v r text_v))
one_word (x ∷ []) r (y ∷ []) s text_v stop_r text_w stop_s e = (cc, cc)
one_word (x ∷ []) r (y ∷ z ∷ w) s text_v stop_r text_w stop_s e =
    let same : x ≡ y = cc in
    let behind : r ≡ z ∷ (w ++ s) = cc in
    let no = ap (λ (b : ℕ). eqb b backslash) (sym same) ∙ word_no_backslash x text_v in
    absurd (false≢true (sym stop_r ∙ ap goes_on behind ∙ text_goes_on z w s (byte_parts y z w no text_w).1))
one_word (x ∷ z ∷ v) r (y ∷ []) s text_v stop_r text_w stop_s e =
    let same : x ≡ y = cc in
    let behind : s ≡ z ∷ (v ++ r) = cc in
    let no = ap (λ (b : ℕ). eqb b backslash) same ∙ word_no_backslash y text_w in
    absurd (false≢true (sym stop_s ∙ ap goes_on behind ∙ text_goes_on z v r (byte_parts x z v no text_v).1))
one_word (x ∷ y ∷ v) r (a ∷ b ∷ w) s text_v stop_r text_w stop_s e =
    let first : x ≡ a = cc in
    let second : y ≡ b = cc in
    elim (eqb x backslash) as (λ t. eqb x backslash ≡ t → (x ∷ y ∷ v ≡ a ∷ b ∷ w) × (r ≡ s)) [
      | true ↦ λ is.
          let left = backslash_parts x y v is text_v in
          let right = backslash_parts a b w (ap (λ (t : ℕ). eqb t backslash) (sym first) ∙ is) text_w in
          let rest : v ++ r ≡ w ++ s = cc in
          let one = one_word v r w s left.1 stop_r right.1 stop_s rest in
          (cc, one.1)
      | false ↦ λ is.
          let left = byte_parts x y v is text_v in
          let right = byte_parts a b w (ap (λ (t : ℕ). eqb t backslash) (sym first) ∙ is) text_w in
          let rest : (y ∷ v) ++ r ≡ (b ∷ w) ++ s = cc in
          let one = one_word (y ∷ v) r (b ∷ w) s left.1 stop_r right.1 stop_s rest in
          (cc, one.1)
    ] refl
