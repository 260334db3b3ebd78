-- What the comparisons of values tell.
use Rattle.std.proofs.Common.{◌≡◌, inl, inr, ℕ, ℤ, pos, zero, suc, ◌<◌, true, true≢false, ◌==◌, List, [], ◌∷◌, length, refl, sym, ap, subst, arith}
use Rattle.std.proofs.lemmas.Slice.Eq.{bytes_eq-Decides}
use Rattle.std.proofs.lemmas.Bool.Decides.{Decides-eqb, Decides-int_eq}
use Rattle.sqlite.specs.declared.types.Value.{Value}
use Rattle.sqlite.specs.declared.types.Value.TheVariants.{Null, Int, Real, Text, Blob}
use Rattle.sqlite.specs.Order.{Row, column}
use Rattle.sqlite_rules.specs.Lists.{Has}
use Rattle.store_opening.specs.private.Rows.{IsPlain}
use Rattle.store_opening.specs.private.Compare.{agree, is_integer, is_nothing, is_text}
use Rattle.store_opening.specs.Opened.{is_number}

pub text_is : (t : List ℕ) (v : Value) → is_text t v ≡ true → v ≡ Text t
text_is t Null h = absurd (true≢false (sym h))
text_is t (Int n) h = absurd (true≢false (sym h))
text_is t (Real x) h = absurd (true≢false (sym h))
text_is t (Text s) h = ap Text ((bytes_eq-Decides s t).0 h)
text_is t (Blob b) h = absurd (true≢false (sym h))

pub is_the_text : (t : List ℕ) (v : Value) → v ≡ Text t → is_text t v ≡ true
is_the_text t v e = subst (λ w. is_text t w ≡ true) (sym e) ((bytes_eq-Decides t t).1 refl)

pub int_is : (n : ℤ) (v : Value) → is_integer n v ≡ true → v ≡ Int n
int_is n Null h = absurd (true≢false (sym h))
int_is n (Int m) h = ap Int ((Decides-int_eq m n).0 h)
int_is n (Real x) h = absurd (true≢false (sym h))
int_is n (Text t) h = absurd (true≢false (sym h))
int_is n (Blob b) h = absurd (true≢false (sym h))

pub is_the_int : (n : ℤ) (v : Value) → v ≡ Int n → is_integer n v ≡ true
is_the_int n v e = subst (λ w. is_integer n w ≡ true) (sym e) ((Decides-int_eq n n).1 refl)

pub number_is : (n : ℕ) (v : Value) → is_number n v ≡ true → v ≡ Int (pos n)
number_is n Null h = absurd (true≢false (sym h))
number_is n (Int m) h = ap Int ((Decides-int_eq m (pos n)).0 h)
number_is n (Real x) h = absurd (true≢false (sym h))
number_is n (Text t) h = absurd (true≢false (sym h))
number_is n (Blob b) h = absurd (true≢false (sym h))

pub is_the_number : (n : ℕ) (v : Value) → v ≡ Int (pos n) → is_number n v ≡ true
is_the_number n v e = subst (λ w. is_number n w ≡ true) (sym e) ((Decides-int_eq (pos n) (pos n)).1 refl)

nothing_is : (v : Value) → is_nothing v ≡ true → v ≡ Null
nothing_is Null h = refl
nothing_is (Int n) h = absurd (true≢false (sym h))
nothing_is (Real x) h = absurd (true≢false (sym h))
nothing_is (Text t) h = absurd (true≢false (sym h))
nothing_is (Blob b) h = absurd (true≢false (sym h))

-- values that agree are the same
pub agree_is : (v w : Value) → agree v w ≡ true → v ≡ w
agree_is Null w h = sym (nothing_is w h)
agree_is (Int n) w h = sym (int_is n w h)
agree_is (Real x) w h = absurd (true≢false (sym h))
agree_is (Text t) w h = sym (text_is t w h)
agree_is (Blob b) w h = absurd (true≢false (sym h))

pub agree_text : (t : List ℕ) (v w : Value) → v ≡ Text t → w ≡ Text t → agree v w ≡ true
agree_text t v w e f = subst (λ u. agree u w ≡ true) (sym e) (is_the_text t w f)

pub agree_int : (n : ℤ) (v w : Value) → v ≡ Int n → w ≡ Int n → agree v w ≡ true
agree_int n v w e f = subst (λ u. agree u w ≡ true) (sym e) (is_the_int n w f)

pub agree_plain : (v : Value) → IsPlain v → agree v v ≡ true
agree_plain v plain = elim plain [ inl it ↦ agree_text it.0 v v it.1 it.1 | inr it ↦ agree_int it.0 v v it.1 it.1 ]

-- ---- rows of a width

length_is : (r : Row) (n : ℕ) → (length r == n) ≡ true → length r ≡ n
length_is r n h = (Decides-eqb (length r) n).0 h

pub four : (r : Row) → (length r == 4) ≡ true → r ≡ column r 0 ∷ column r 1 ∷ column r 2 ∷ column r 3 ∷ []
four r h = go r (length_is r 4 h)
  where
    go : (r : Row) → length r ≡ 4 → r ≡ column r 0 ∷ column r 1 ∷ column r 2 ∷ column r 3 ∷ []
    go [] e = absurd (omega (arith, e))
    go (a ∷ []) e = absurd (omega (arith, e))
    go (a ∷ b ∷ []) e = absurd (omega (arith, e))
    go (a ∷ b ∷ c ∷ []) e = absurd (omega (arith, e))
    go (a ∷ b ∷ c ∷ d ∷ []) e = refl
    go (a ∷ b ∷ c ∷ d ∷ x ∷ more) e = absurd (omega (arith, e))

pub five : (r : Row) → (length r == 5) ≡ true → r ≡ column r 0 ∷ column r 1 ∷ column r 2 ∷ column r 3 ∷ column r 4 ∷ []
five r h = go r (length_is r 5 h)
  where
    go : (r : Row) → length r ≡ 5 → r ≡ column r 0 ∷ column r 1 ∷ column r 2 ∷ column r 3 ∷ column r 4 ∷ []
    go [] e = absurd (omega (arith, e))
    go (a ∷ []) e = absurd (omega (arith, e))
    go (a ∷ b ∷ []) e = absurd (omega (arith, e))
    go (a ∷ b ∷ c ∷ []) e = absurd (omega (arith, e))
    go (a ∷ b ∷ c ∷ d ∷ []) e = absurd (omega (arith, e))
    go (a ∷ b ∷ c ∷ d ∷ x ∷ []) e = refl
    go (a ∷ b ∷ c ∷ d ∷ x ∷ y ∷ more) e = absurd (omega (arith, e))

pub six : (r : Row) → (length r == 6) ≡ true → r ≡ column r 0 ∷ column r 1 ∷ column r 2 ∷ column r 3 ∷ column r 4 ∷ column r 5 ∷ []
six r h = go r (length_is r 6 h)
  where
    go : (r : Row) → length r ≡ 6 → r ≡ column r 0 ∷ column r 1 ∷ column r 2 ∷ column r 3 ∷ column r 4 ∷ column r 5 ∷ []
    go [] e = absurd (omega (arith, e))
    go (a ∷ []) e = absurd (omega (arith, e))
    go (a ∷ b ∷ []) e = absurd (omega (arith, e))
    go (a ∷ b ∷ c ∷ []) e = absurd (omega (arith, e))
    go (a ∷ b ∷ c ∷ d ∷ []) e = absurd (omega (arith, e))
    go (a ∷ b ∷ c ∷ d ∷ x ∷ []) e = absurd (omega (arith, e))
    go (a ∷ b ∷ c ∷ d ∷ x ∷ y ∷ []) e = refl
    go (a ∷ b ∷ c ∷ d ∷ x ∷ y ∷ z ∷ more) e = absurd (omega (arith, e))

-- ---- whole rows

pub same_rows : (r s : Row) → length r ≡ length s → ((k : ℕ) → k < length r → column r k ≡ column s k) → r ≡ s
same_rows [] [] e each = refl
same_rows [] (w ∷ s) e each = absurd (omega (arith, e))
same_rows (v ∷ r) [] e each = absurd (omega (arith, e))
same_rows (v ∷ r) (w ∷ s) e each =
    let first : v ≡ w = each 0 (omega arith) in
    let more = same_rows r s (omega (arith, e)) (λ k within. each (suc k) (omega (arith, within))) in
    λ i. first i ∷ more i

pub plain_agree : (r : Row) → ((v : Value) → Has r v → IsPlain v) → (k : ℕ) → agree (column r k) (column r k) ≡ true
plain_agree [] plain k = refl
plain_agree (v ∷ r) plain zero = agree_plain v (plain v (inl refl))
plain_agree (v ∷ r) plain (suc k) = plain_agree r (λ w there. plain w (inr there)) k
