-- Arguments and their texts: an argument's text belongs to that argument alone.
use Rattle.std.proofs.Common.{◌≡◌, ℕ, ◌+◌, ◌≤◌, ◌⊎◌, Bool, true, false, cond, leb, ◌&&◌, List, [], ◌∷◌, ◌++◌, length}
use Rattle.std.proofs.Common.{count_by, refl, sym, ap, subst, ◌∙◌, inl, inr, append_assoc, length-append, arith}
use Rattle.std.specs.List.{AllByRecursion, list_all}
use Rattle.std.proofs.lemmas.Bool.{and_parts, cases_Bool, false≢true, leb-true}
use Rattle.std.proofs.lemmas.List.Sums.{sum_by-cons}
use Rattle.sudo_words.specs.Word.{is_arg, is_arg_byte}
use Rattle.sudo_words.specs.Command.{arg_text, escaped_byte, is_escaped}

pub record ArgParts (a : List ℕ) : Type 0 where
  pub bytes : list_all is_arg_byte a ≡ true
  pub some : 1 ≤ length a
  pub short : length a ≤ 64

pub arg_parts : (a : List ℕ) → is_arg a ≡ true → ArgParts a
arg_parts a h =
    let all = and_parts (list_all is_arg_byte a && leb 1 (length a)) (leb (length a) 64) h in
    let both = and_parts (list_all is_arg_byte a) (leb 1 (length a)) all.0 in
    record { bytes = both.0; some = leb-true 1 (length a) both.1; short = leb-true (length a) 64 all.1 }

-- ---- the text of one byte

byte_cases : (b : ℕ) → ((is_escaped b ≡ true) × (escaped_byte b ≡ 92 ∷ b ∷ [])) ⊎ ((is_escaped b ≡ false) × (escaped_byte b ≡ b ∷ []))
byte_cases b =
    elim (cases_Bool (is_escaped b)) [
      | inl holds ↦ inl (holds, ap (λ (v : Bool). cond v (92 ∷ b ∷ []) (b ∷ [])) holds)
      | inr fails ↦ inr (fails, ap (λ (v : Bool). cond v (92 ∷ b ∷ []) (b ∷ [])) fails)
    ]

no_backslash : (b : ℕ) → is_arg_byte b ≡ true → b ≡ 92 → ⊥
no_backslash b h e = false≢true (subst (λ (n : ℕ). is_arg_byte n ≡ true) e h)

-- the byte that a text begins with, and what stands behind it
pub byte_front : (b c : ℕ) (r s : List ℕ) → is_arg_byte b ≡ true → is_arg_byte c ≡ true → escaped_byte b ++ r ≡ escaped_byte c ++ s → (b ≡ c) × (r ≡ s)
byte_front b c r s x y e =
    elim (byte_cases b) [
      | inl p ↦
          elim (byte_cases c) [
            | inl q ↦
                let both : 92 ∷ b ∷ r ≡ 92 ∷ c ∷ s = ap (λ (t : List ℕ). t ++ r) (sym p.1) ∙ e ∙ ap (λ (t : List ℕ). t ++ s) q.1 in
                (cc, cc)
            | inr q ↦
                let both : 92 ∷ b ∷ r ≡ c ∷ s = ap (λ (t : List ℕ). t ++ r) (sym p.1) ∙ e ∙ ap (λ (t : List ℕ). t ++ s) q.1 in
                absurd (no_backslash c y cc)
          ]
      | inr p ↦
          elim (byte_cases c) [
            | inl q ↦
                let both : b ∷ r ≡ 92 ∷ c ∷ s = ap (λ (t : List ℕ). t ++ r) (sym p.1) ∙ e ∙ ap (λ (t : List ℕ). t ++ s) q.1 in
                absurd (no_backslash b x cc)
            | inr q ↦
                let both : b ∷ r ≡ c ∷ s = ap (λ (t : List ℕ). t ++ r) (sym p.1) ∙ e ∙ ap (λ (t : List ℕ). t ++ s) q.1 in
                (cc, cc)
          ]
    ]

byte_length : (b : ℕ) → length (escaped_byte b) ≡ 1 + cond (is_escaped b) 1 0
byte_length b =
    elim (byte_cases b) [
      | inl p ↦ ap length p.1 ∙ ap (λ (v : Bool). 1 + cond v 1 0) (sym p.0)
      | inr p ↦ ap length p.1 ∙ ap (λ (v : Bool). 1 + cond v 1 0) (sym p.0)
    ]

-- ---- the text of an argument

-- one byte for each of its own, and one more for each backslash
pub arg_text_length : (a : List ℕ) → length (arg_text a) ≡ length a + count_by is_escaped a
arg_text_length [] = refl
arg_text_length (b ∷ a) =
    let more : count_by is_escaped (b ∷ a) ≡ cond (is_escaped b) 1 0 + count_by is_escaped a = sum_by-cons (λ (y : ℕ). cond (is_escaped y) 1 0) b a in
    omega (arith, length-append (escaped_byte b) (arg_text a), byte_length b, arg_text_length a, more)

pub arg_text_some : (a : List ℕ) → is_arg a ≡ true → 1 ≤ length (arg_text a)
arg_text_some a h = omega (arith, arg_text_length a, (arg_parts a h).some)

empty_text : (c : ℕ) (w left : List ℕ) → [] ≡ (escaped_byte c ++ arg_text w) ++ left → ⊥
empty_text c w left e =
    omega (arith, ap length e, length-append (escaped_byte c ++ arg_text w) left, length-append (escaped_byte c) (arg_text w), byte_length c)

-- an argument that begins with another's bytes
pub record GoesOn (a w left : List ℕ) : Type 0 where
  pub rest : List ℕ
  pub whole : a ≡ w ++ rest
  pub left_is : left ≡ arg_text rest
  pub bytes : list_all is_arg_byte rest ≡ true

pub goes_on : (a w left : List ℕ) → list_all is_arg_byte a ≡ true → list_all is_arg_byte w ≡ true → arg_text a ≡ arg_text w ++ left → GoesOn a w left
goes_on a [] left x y e = record { rest = a; whole = refl; left_is = sym e; bytes = x }
goes_on [] (c ∷ w) left x y e = absurd (empty_text c w left e)
goes_on (b ∷ a) (c ∷ w) left x y e =
    let xs = and_parts (is_arg_byte b) (list_all is_arg_byte a) x in
    let ys = and_parts (is_arg_byte c) (list_all is_arg_byte w) y in
    let front = byte_front b c (arg_text a) (arg_text w ++ left) xs.0 ys.0 (e ∙ append_assoc (escaped_byte c) (arg_text w) left) in
    let more = goes_on a w left xs.1 ys.1 front.1 in
    let whole : b ∷ a ≡ c ∷ (w ++ more.rest) = ap (λ (n : ℕ). n ∷ a) front.0 ∙ ap (λ (t : List ℕ). c ∷ t) more.whole in
    record { rest = more.rest; whole = whole; left_is = more.left_is; bytes = more.bytes }

-- no text is that of two arguments
pub same_bytes : (a w : List ℕ) → list_all is_arg_byte a ≡ true → list_all is_arg_byte w ≡ true → arg_text a ≡ arg_text w → a ≡ w
same_bytes [] [] x y e = refl
same_bytes [] (c ∷ w) x y e = absurd (omega (arith, ap length e, length-append (escaped_byte c) (arg_text w), byte_length c))
same_bytes (b ∷ a) [] x y e = absurd (omega (arith, ap length e, length-append (escaped_byte b) (arg_text a), byte_length b))
same_bytes (b ∷ a) (c ∷ w) x y e =
    let xs = and_parts (is_arg_byte b) (list_all is_arg_byte a) x in
    let ys = and_parts (is_arg_byte c) (list_all is_arg_byte w) y in
    let front = byte_front b c (arg_text a) (arg_text w) xs.0 ys.0 e in
    ap (λ (n : ℕ). n ∷ a) front.0 ∙ ap (λ (t : List ℕ). c ∷ t) (same_bytes a w xs.1 ys.1 front.1)

pub same_arg : (a w : List ℕ) → is_arg a ≡ true → is_arg w ≡ true → arg_text a ≡ arg_text w → a ≡ w
same_arg a w x y e = same_bytes a w (arg_parts a x).bytes (arg_parts w y).bytes e

-- what holds of a backslash and of each byte of an argument holds of each byte of the text
pub arg_text_each : (P : ℕ → Type 0) → P 92 → ((b : ℕ) → is_arg_byte b ≡ true → P b)
    → (a : List ℕ) → list_all is_arg_byte a ≡ true → AllByRecursion P (arg_text a)
arg_text_each P escape byte [] h = tt
arg_text_each P escape byte (b ∷ a) h =
    let both = and_parts (is_arg_byte b) (list_all is_arg_byte a) h in
    let more = arg_text_each P escape byte a both.1 in
    elim (byte_cases b) [
      | inl p ↦ subst (λ (t : List ℕ). AllByRecursion P (t ++ arg_text a)) (sym p.1) (escape, (byte b both.0, more))
      | inr p ↦ subst (λ (t : List ℕ). AllByRecursion P (t ++ arg_text a)) (sym p.1) (byte b both.0, more)
    ]
