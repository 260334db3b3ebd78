-- The test of the rowids holds exactly where each has its own row.
use Rattle.std.proofs.Common.{◌≡◌, inl, inr, ℕ, ℤ, zero, suc, ◌<◌, ◌≤◌, nat_le, Bool, true, true≢false, not, ◌||◌, List, length, refl, sym, subst, ◌∙◌, arith}
use Rattle.std.specs.List.{list_all}
use Rattle.std.proofs.lemmas.Bool.{and_parts, and_from, cases_Bool}
use Rattle.std.proofs.lemmas.Bool.Decides.{Decides-eqb, leb_tells}
use Rattle.sqlite.specs.declared.types.Value.{Value}
use Rattle.sqlite.specs.declared.types.Value.TheVariants.{Null, Int, Real, Text, Blob}
use Rattle.sqlite.specs.Order.{Row, column}
use Rattle.sqlite.specs.View.{is_int}
use Rattle.sqlite_rules.specs.Lists.{Has}
use Rattle.sqlite_rules.proofs.ListLemmas.{test_from, test_has}
use Rattle.store_tables.specs.Kept.{IsKeyed}
use Rattle.store_opening.specs.private.Rows.{ArePlain}
use Rattle.store_opening.specs.private.Compare.{agree, has_rowid, is_apart, is_keyed, is_same}
use Rattle.store_opening.proofs.Compared.{agree_int, agree_is, plain_agree, same_rows}

pub int_of : (v : Value) → is_int v ≡ true → (n : ℤ) × (v ≡ Int n)
int_of Null h = absurd (true≢false (sym h))
int_of (Int n) h = (n, refl)
int_of (Real x) h = absurd (true≢false (sym h))
int_of (Text t) h = absurd (true≢false (sym h))
int_of (Blob b) h = absurd (true≢false (sym h))

short_is : (r : Row) → nat_le (length r) 6 ≡ true → length r ≤ 6
short_is r h = elim (leb_tells (length r) 6) [ inl it ↦ it.1 | inr it ↦ absurd (true≢false (sym h ∙ it.0)) ]

is_short : (r : Row) → length r ≤ 6 → nat_le (length r) 6 ≡ true
is_short r h = elim (leb_tells (length r) 6) [ inl it ↦ it.0 | inr it ↦ absurd (let over = it.1 in omega (arith, h, over)) ]

module _ (rows : List Row) where
  module _ (h : list_all (is_keyed rows) rows ≡ true) where
    each : (r : Row) → Has rows r → (has_rowid r ≡ true) × (list_all (is_apart r) rows ≡ true)
    each r there = and_parts _ _ (test_has (is_keyed rows) rows r h there)

    same : (a b : Row) → length a ≤ 6 → is_same a b ≡ true → a ≡ b
    same a b short is =
        let wide = and_parts _ _ is in
        let e0 = and_parts _ _ wide.1 in
        let e1 = and_parts _ _ e0.1 in
        let e2 = and_parts _ _ e1.1 in
        let e3 = and_parts _ _ e2.1 in
        let e4 = and_parts _ _ e3.1 in
        same_rows a b ((Decides-eqb (length a) (length b)).0 wide.0) (columns e0.0 e1.0 e2.0 e3.0 e4.0 e4.1)
      where
        columns : agree (column a 0) (column b 0) ≡ true → agree (column a 1) (column b 1) ≡ true
            → agree (column a 2) (column b 2) ≡ true → agree (column a 3) (column b 3) ≡ true
            → agree (column a 4) (column b 4) ≡ true → agree (column a 5) (column b 5) ≡ true → (k : ℕ) → k < length a → column a k ≡ column b k
        columns h0 h1 h2 h3 h4 h5 zero within = agree_is _ _ h0
        columns h0 h1 h2 h3 h4 h5 (suc zero) within = agree_is _ _ h1
        columns h0 h1 h2 h3 h4 h5 (suc (suc zero)) within = agree_is _ _ h2
        columns h0 h1 h2 h3 h4 h5 (suc (suc (suc zero))) within = agree_is _ _ h3
        columns h0 h1 h2 h3 h4 h5 (suc (suc (suc (suc zero)))) within = agree_is _ _ h4
        columns h0 h1 h2 h3 h4 h5 (suc (suc (suc (suc (suc zero))))) within = agree_is _ _ h5
        columns h0 h1 h2 h3 h4 h5 (suc (suc (suc (suc (suc (suc k)))))) within = absurd (omega (arith, within, short))

    once : (a b : Row) → Has rows a → Has rows b → column a 0 ≡ column b 0 → a ≡ b
    once a b here there is =
        let own = and_parts _ _ (each a here).0 in
        let n = int_of (column a 0) own.0 in
        let agrees = agree_int n.0 (column a 0) (column b 0) n.1 (sym is ∙ n.1) in
        let apart = test_has (is_apart a) rows b (each a here).1 there in
        same a b (short_is a own.1) (subst (λ (t : Bool). (not t || is_same a b) ≡ true) agrees apart)

    pub keyed_is : IsKeyed rows
    keyed_is = record { ints = λ r there. (and_parts _ _ (each r there).0).0; once = once }

  module _ (plain : ArePlain rows) (keyed : IsKeyed rows) where
    itself : (a : Row) → Has rows a → is_same a a ≡ true
    itself a here =
        let own = plain_agree a (plain a here).1 in
        and_from _ _ ((Decides-eqb (length a) (length a)).1 refl)
        (and_from _ _ (own 0) (and_from _ _ (own 1) (and_from _ _ (own 2) (and_from _ _ (own 3) (and_from _ _ (own 4) (own 5))))))

    apart : (a b : Row) → Has rows a → Has rows b → is_apart a b ≡ true
    apart a b here there = elim (cases_Bool (agree (column a 0) (column b 0))) [
      | inl is ↦
          let one = keyed.once a b here there (agree_is _ _ is) in
          subst (λ (t : Bool). (not t || is_same a b) ≡ true) (sym is) (subst (λ x. is_same a x ≡ true) one (itself a here))
      | inr is ↦ subst (λ (t : Bool). (not t || is_same a b) ≡ true) (sym is) refl
    ]

    pub is_keyed_so : list_all (is_keyed rows) rows ≡ true
    is_keyed_so = test_from (is_keyed rows) rows (λ r here.
        and_from _ _ (and_from _ _ (keyed.ints r here) (is_short r (plain r here).0)) (test_from (is_apart r) rows (λ b there. apart r b here there)))
