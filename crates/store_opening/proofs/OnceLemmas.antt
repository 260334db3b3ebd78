-- Rows whose names, or whose rowids, occur once.
use Rattle.std.proofs.Common.{◌≡◌, cond, inl, inr, ℕ, ℤ, ◌+◌, ◌<◌, ◌≤◌, Bool, true, not, ◌&&◌, ◌||◌, List}
use Rattle.std.proofs.Common.{[], ◌∷◌, ◌++◌, length, get_or, take, refl, sym, ap, subst, ◌∙◌, arith}
use Rattle.std.specs.Prelude.{count_by}
use Rattle.std.specs.List.{list_all}
use Rattle.std.proofs.lemmas.Bool.{and_parts, and_from, cases_Bool}
use Rattle.std.proofs.lemmas.Bool.Decides.{Decides-int_eq}
use Rattle.std.proofs.lemmas.List.Sums.{sum_by-cons, sum_by_more, sum_by_push}
use Rattle.std.proofs.lemmas.Slice.Eq.{bytes_eq-Decides}
use Rattle.sqlite.specs.Order.{Row, column}
use Rattle.sqlite_rules.specs.Lists.{Has}
use Rattle.sqlite_rules.proofs.ListLemmas.{test_from, test_has}
use Rattle.store_opening.specs.private.Compare.{agree, has_rowid, is_apart, is_keyed, is_once, is_same}
use Rattle.store_opening.specs.declared.names.NameKey.{NameKey}
use Rattle.store_opening.specs.private.Names.{id_is, name_is, number_in, text_in}
use Rattle.store_opening.proofs.Compared.{agree_is}

-- ---- counts

counted : {X : Type 0} (p : X → Bool) (x : X) (xs : List X) (b : Bool) → p x ≡ b → count_by p (x ∷ xs) ≡ cond b 1 0 + count_by p xs
counted p x xs b is = sum_by-cons (λ y. cond (p y) 1 0) x xs ∙ ap (λ (t : Bool). cond t 1 0 + count_by p xs) is

counted_some : {X : Type 0} (p : X → Bool) (xs : List X) (x : X) → Has xs x → p x ≡ true → 1 ≤ count_by p xs
counted_some p [] x there is = absurd there
counted_some p (y ∷ ys) x (inl e) is =
    let here : count_by p (y ∷ ys) ≡ 1 + count_by p ys = counted p y ys true (subst (λ z. p z ≡ true) e is) in
    omega (arith, here)
counted_some p (y ∷ ys) x (inr there) is =
    let here : count_by p (y ∷ ys) ≡ cond (p y) 1 0 + count_by p ys = counted p y ys (p y) refl in
    let rest : 1 ≤ count_by p ys = counted_some p ys x there is in
    omega (arith, here, rest)

-- a pushed name counts as the next row
pub counts_more : (p : NameKey → Bool) (q : Row → Bool) (names : List NameKey) (m : NameKey) (rows : List Row) (i : ℕ) (r : Row) → i < length rows
    → r ≡ get_or rows i r → p m ≡ q r → count_by p names ≡ count_by q (take i rows) → count_by p (names ++ m ∷ []) ≡ count_by q (take (i + 1) rows)
counts_more p q names m rows i r within is same before =
    let one : cond (p m) 1 0 ≡ cond (q (get_or rows i r)) 1 0 = ap (λ (b : Bool). cond b 1 0) (same ∙ ap q is) in
    sum_by_push (λ n. cond (p n) 1 0) names m ∙ (λ j. before j + one j) ∙ sym (sum_by_more (λ x. cond (q x) 1 0) rows i r within)

-- ---- what occurs once is one element

module _ {X K : Type 0} (is_key : K → X → Bool) (key : X → K) (own : (x : X) → is_key (key x) x ≡ true) where
  one_of : (xs : List X) → ((k : K) → count_by (is_key k) xs ≤ 1) → (x y : X) → Has xs x → Has xs y → is_key (key x) y ≡ true → x ≡ y
  one_of [] few x y here there same = absurd here
  one_of (z ∷ zs) few x y (inl e) (inl f) same = e ∙ sym f
  one_of (z ∷ zs) few x y (inl e) (inr there) same =
      let two : count_by (is_key (key x)) (z ∷ zs) ≡ 1 + count_by (is_key (key x)) zs =
      counted (is_key (key x)) z zs true (subst (λ w. is_key (key x) w ≡ true) e (own x)) in
      let some : 1 ≤ count_by (is_key (key x)) zs = counted_some (is_key (key x)) zs y there same in
      let most : count_by (is_key (key x)) (z ∷ zs) ≤ 1 = few (key x) in
      absurd (omega (arith, two, some, most))
  one_of (z ∷ zs) few x y (inr here) (inl f) same =
      let two : count_by (is_key (key x)) (z ∷ zs) ≡ 1 + count_by (is_key (key x)) zs =
      counted (is_key (key x)) z zs true (subst (λ w. is_key (key x) w ≡ true) f same) in
      let some : 1 ≤ count_by (is_key (key x)) zs = counted_some (is_key (key x)) zs x here (own x) in
      let most : count_by (is_key (key x)) (z ∷ zs) ≤ 1 = few (key x) in
      absurd (omega (arith, two, some, most))
  one_of (z ∷ zs) few x y (inr here) (inr there) same = one_of zs fewer x y here there same
    where
      fewer : (k : K) → count_by (is_key k) zs ≤ 1
      fewer k =
          let all : count_by (is_key k) (z ∷ zs) ≡ cond (is_key k z) 1 0 + count_by (is_key k) zs = counted (is_key k) z zs (is_key k z) refl in
          let most : count_by (is_key k) (z ∷ zs) ≤ 1 = few k in
          omega (arith, all, most)

-- ---- rows

abbrev name_key : List ℕ × ℤ → Row → Bool
name_key k r = name_is k.0 k.1 r

abbrev name_of_row : Row → List ℕ × ℤ
name_of_row r = (text_in (column r 1), number_in (column r 2))

is_named : (r s : Row) → column r 1 ≡ column s 1 → column r 2 ≡ column s 2 → name_key (name_of_row r) s ≡ true
is_named r s a b = and_from _ _ ((bytes_eq-Decides (text_in (column s 1)) (text_in (column r 1))).1 (sym (ap text_in a)))
    ((Decides-int_eq (number_in (column s 2)) (number_in (column r 2))).1 (sym (ap number_in b)))

abbrev id_key : ℤ → Row → Bool
id_key n r = id_is [] n r

is_numbered : (r s : Row) → column r 0 ≡ column s 0 → id_key (number_in (column r 0)) s ≡ true
is_numbered r s a = and_from _ _ ((bytes_eq-Decides [] []).1 refl) ((Decides-int_eq (number_in (column s 0)) (number_in (column r 0))).1 (sym (ap number_in a)))

module _ (rows : List Row) where
  pub once_apart : ((asker : List ℕ) (number : ℤ) → count_by (name_is asker number) rows ≤ 1)
      → list_all (λ r. is_once r r) rows ≡ true → list_all (λ r. list_all (is_once r) rows) rows ≡ true
  once_apart few own = test_from (λ r. list_all (is_once r) rows) rows (λ r here. test_from (is_once r) rows (λ s there. pair r s here there))
    where
      pair : (r s : Row) → Has rows r → Has rows s → is_once r s ≡ true
      pair r s here there = elim (cases_Bool (agree (column r 1) (column s 1) && agree (column r 2) (column s 2))) [
        | inl is ↦
            let both = and_parts _ _ is in
            let one : r ≡ s = one_of name_key name_of_row (λ x. is_named x x refl refl) rows
            (λ k. few k.0 k.1) r s here there (is_named r s (agree_is _ _ both.0) (agree_is _ _ both.1)) in
            subst (λ x. is_once r x ≡ true) one (test_has (λ x. is_once x x) rows r own here)
        | inr is ↦ subst (λ (t : Bool). (not t || agree (column r 3) (column s 3)) ≡ true) (sym is) refl
      ]

  pub keyed_apart : ((asker : List ℕ) (number : ℤ) → count_by (id_is asker number) rows ≤ 1)
      → list_all (λ r. has_rowid r && is_same r r) rows ≡ true → list_all (is_keyed rows) rows ≡ true
  keyed_apart few own = test_from (is_keyed rows) rows (λ r here.
      let both = and_parts _ _ (test_has (λ x. has_rowid x && is_same x x) rows r own here) in
      and_from _ _ both.0 (test_from (is_apart r) rows (λ s there. pair r s here there both.1)))
    where
      pair : (r s : Row) → Has rows r → Has rows s → is_same r r ≡ true → is_apart r s ≡ true
      pair r s here there itself = elim (cases_Bool (agree (column r 0) (column s 0))) [
        | inl is ↦
            let one : r ≡ s = one_of id_key (λ x. number_in (column x 0)) (λ x. is_numbered x x refl) rows
            (λ n. few [] n) r s here there (is_numbered r s (agree_is _ _ is)) in
            subst (λ (t : Bool). (not t || is_same r s) ≡ true) (sym is) (subst (λ x. is_same r x ≡ true) one itself)
        | inr is ↦ subst (λ (t : Bool). (not t || is_same r s) ≡ true) (sym is) refl
      ]
