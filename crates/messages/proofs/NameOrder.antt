-- The orders of texts and of names: they are strict, and of any two different ones, one comes first.
use Rattle.std.proofs.Common.{◌≡◌, ℕ, ◌<◌, ◌⊎◌, true, List, refl, sym, ap, ◌∙◌, subst, arith, inl, inr}
use Rattle.std.specs.Cmp.Lexicographic.{slice_cmp}
use Rattle.std.specs.Ordering.{MatchOrdering, nat_cmp, ordering_then, is_lt, ordering_reverse}
use Rattle.std.specs.declared.cmp.Ordering.{Ordering}
use Rattle.std.specs.declared.cmp.Ordering.TheVariants.{Less, Equal, Greater}
use Rattle.std.proofs.lemmas.Bool.{cases_lt}
use Rattle.std.proofs.lemmas.Cmp.{nat_list_cmp_total, ranked, tied_itself}
use Rattle.std.proofs.lemmas.Map.Lookups.{exact_bytes}
use Rattle.messages.specs.Names.{NamePrecedes, RequestName, name_cmp}
use Rattle.messages.specs.Order.{TextPrecedes}

-- ---- strict

less_from_test : (o : Ordering) → is_lt o ≡ true → o ≡ Less
less_from_test Less h = refl
less_from_test Equal h = absurd cc
less_from_test Greater h = absurd cc

pub texts_strict : (a b : List ℕ) → TextPrecedes a b → TextPrecedes b a → ⊥
texts_strict a b f g =
    let first : slice_cmp nat_cmp a b ≡ Less = less_from_test (slice_cmp nat_cmp a b) f in
    let second : slice_cmp nat_cmp b a ≡ Less = less_from_test (slice_cmp nat_cmp b a) g in
    let turned : slice_cmp nat_cmp a b ≡ ordering_reverse (slice_cmp nat_cmp b a) = nat_list_cmp_total.antisymm a b in
    let wrong : Less ≡ ordering_reverse Less = sym first ∙ turned ∙ ap ordering_reverse second in
    cc

not_before_same : (a b : List ℕ) → TextPrecedes a b → a ≡ b → ⊥
not_before_same a b f e = let self : TextPrecedes a a = subst (TextPrecedes a) (sym e) f in texts_strict a a self self

pub names_strict : (a b : RequestName) → NamePrecedes a b → NamePrecedes b a → ⊥
names_strict a b (inl f) (inl g) = texts_strict a.by b.by f g
names_strict a b (inl f) (inr g) = not_before_same a.by b.by f (sym g.0)
names_strict a b (inr f) (inl g) = not_before_same b.by a.by g (sym f.0)
names_strict a b (inr f) (inr g) = omega (arith, f.1, g.1)

pub not_precede_same : (a b : RequestName) → NamePrecedes a b → a ≡ b → ⊥
not_precede_same a b f e = let self : NamePrecedes a a = subst (NamePrecedes a) (sym e) f in names_strict a a self self

-- ---- one or the other

texts_by : (a b : List ℕ) (o : Ordering) → slice_cmp nat_cmp a b ≡ o → TextPrecedes a b ⊎ ((a ≡ b) ⊎ TextPrecedes b a)
texts_by a b Less was = inl (ap is_lt was)
texts_by a b Equal was = inr (inl (exact_bytes a b was))
texts_by a b Greater was = inr (inr (ap is_lt (nat_list_cmp_total.antisymm b a ∙ ap ordering_reverse was)))

pub either_text : (a b : List ℕ) → TextPrecedes a b ⊎ ((a ≡ b) ⊎ TextPrecedes b a)
either_text a b = texts_by a b (slice_cmp nat_cmp a b) refl

pub texts_trans : (a b c : List ℕ) → TextPrecedes a b → TextPrecedes b c → TextPrecedes a c
texts_trans a b c f g =
    ap is_lt (nat_list_cmp_total.trans a b c (less_from_test (slice_cmp nat_cmp a b) f) (less_from_test (slice_cmp nat_cmp b c) g))

pub either_name : (a b : RequestName) → NamePrecedes a b ⊎ ((a ≡ b) ⊎ NamePrecedes b a)
either_name a b =
    elim (either_text a.by b.by) as (λ _. NamePrecedes a b ⊎ ((a ≡ b) ⊎ NamePrecedes b a)) [
      | inl before ↦ inl (inl before)
      | inr (inr after) ↦ inr (inr (inl after))
      | inr (inl same) ↦
          elim (cases_lt a.no b.no) as (λ _. NamePrecedes a b ⊎ ((a ≡ b) ⊎ NamePrecedes b a)) [
            | inl low ↦ inl (inr (same, low))
            | inr high ↦
                elim (cases_lt b.no a.no) as (λ _. NamePrecedes a b ⊎ ((a ≡ b) ⊎ NamePrecedes b a)) [
                  | inl low ↦ inr (inr (inr (sym same, low)))
                  | inr also ↦ let no : a.no ≡ b.no = omega (arith, high, also) in inr (inl (rw (same, no) refl))
                ]
          ]
    ]

pub names_trans : (a b c : RequestName) → NamePrecedes a b → NamePrecedes b c → NamePrecedes a c
names_trans a b c (inl f) (inl g) = inl (texts_trans a.by b.by c.by f g)
names_trans a b c (inl f) (inr g) = inl (subst (TextPrecedes a.by) g.0 f)
names_trans a b c (inr f) (inl g) = inl (subst (λ (w : List ℕ). TextPrecedes w c.by) (sym f.0) g)
names_trans a b c (inr f) (inr g) = inr (f.0 ∙ g.0, omega (arith, f.1, g.1))

-- ---- as the program compares them

below_from_less : (m n : ℕ) → nat_cmp m n ≡ Less → m < n
below_from_less m n h = subst (λ (o : Ordering). MatchOrdering o (m < n) (m ≡ n) (n < m)) h (ranked m n (nat_cmp m n) refl)

-- what an order of names says
lower_by_cases : (a b : RequestName) (o : Ordering) → slice_cmp nat_cmp a.by b.by ≡ o → ordering_then o (nat_cmp a.no b.no) ≡ Less → NamePrecedes a b
lower_by_cases a b Less was h = inl (ap is_lt was)
lower_by_cases a b Equal was h = inr (exact_bytes a.by b.by was, below_from_less a.no b.no h)
lower_by_cases a b Greater was h = absurd cc

pub lower_from_less : (a b : RequestName) → name_cmp a b ≡ Less → NamePrecedes a b
lower_from_less a b h = lower_by_cases a b (slice_cmp nat_cmp a.by b.by) refl h

less_from_below : (m n : ℕ) → m < n → nat_cmp m n ≡ Less
less_from_below m n h = by_order (nat_cmp m n) refl
  where
    by_order : (o : Ordering) → nat_cmp m n ≡ o → o ≡ Less
    by_order Less was = refl
    by_order Equal was =
        let same : m ≡ n = subst (λ (o : Ordering). MatchOrdering o (m < n) (m ≡ n) (n < m)) was (ranked m n (nat_cmp m n) refl) in
        absurd (omega (arith, h, same))
    by_order Greater was =
        let above : n < m = subst (λ (o : Ordering). MatchOrdering o (m < n) (m ≡ n) (n < m)) was (ranked m n (nat_cmp m n) refl) in
        absurd (omega (arith, h, above))

pub less_from_lower : (a b : RequestName) → NamePrecedes a b → name_cmp a b ≡ Less
less_from_lower a b (inl before) =
    ap (λ (o : Ordering). ordering_then o (nat_cmp a.no b.no)) (less_from_test (slice_cmp nat_cmp a.by b.by) before)
less_from_lower a b (inr both) =
    let tied : slice_cmp nat_cmp a.by b.by ≡ Equal = subst (λ (w : List ℕ). slice_cmp nat_cmp a.by w ≡ Equal) both.0 (tied_itself nat_list_cmp_total a.by) in
    ap (λ (o : Ordering). ordering_then o (nat_cmp a.no b.no)) tied ∙ less_from_below a.no b.no both.1
