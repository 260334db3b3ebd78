-- Lists with a mark between their elements are read in one way, where each element is.
use Rattle.std.proofs.Common.{◌≡◌, ℕ, Bool, List, [], ◌∷◌, refl, sym, ap, subst, ◌∙◌}
use Rattle.sudo_policy.specs.Lex.{Tok, mark}
use Rattle.sudo_policy.specs.Grammar.{More, Listed}

-- Tokens begin with one such thing at most, if F holds of the tokens after it.
abbrev pub IsOne : {X : Type 0} → (List Tok → X → List Tok → Type 0) → (List Tok → Type 0) → Type 0
IsOne {X} Is F = (ts : List Tok) (x y : X) (r s : List Tok) → Is ts x r → Is ts y s → F r → F s → (x ≡ y) × (r ≡ s)

-- F holds of tokens that begin with the mark; G holds of what follows the list: it implies F, and excludes the mark
module _ {X : Type 0} (m : ℕ) (Is : List Tok → X → List Tok → Type 0) (F G : List Tok → Type 0) (marked : (a : Bool) (next : List Tok) → F (mark a m ∷ next))
    (within : (r : List Tok) → G r → F r) (ended : (a : Bool) (next : List Tok) → G (mark a m ∷ next) → ⊥) (one : IsOne Is F) where
  more_front : (ts : List Tok) (xs : List X) (r : List Tok) → More m Is ts xs r → G r → F ts
  more_front ts [] r g n = subst F (sym g) (within r n)
  more_front ts (x ∷ xs) r g n = subst F (sym g.3) (marked g.0 g.1)

  more_one : IsOne (More m Is) G
  more_one ts [] [] r s g h n k = (refl, sym g ∙ h)
  more_one ts [] (y ∷ ys) r s g h n k = absurd (ended h.0 h.1 (subst G (sym g ∙ h.3) n))
  more_one ts (x ∷ xs) [] r s g h n k = absurd (ended g.0 g.1 (subst G (sym h ∙ g.3) k))
  more_one ts (x ∷ xs) (y ∷ ys) r s g h n k =
      let both = sym g.3 ∙ h.3 in
      let next : g.1 ≡ h.1 = cc in
      let first = one h.1 x y g.2 h.2 (subst (λ (t : List Tok). Is t x g.2) next g.4) h.4 (more_front g.2 xs r g.5 n) (more_front h.2 ys s h.5 k) in
      let rest = more_one h.2 xs ys r s (subst (λ (t : List Tok). More m Is t xs r) first.1 g.5) h.5 n k in
      (ap (λ (z : X). z ∷ xs) first.0 ∙ ap (λ (zs : List X). y ∷ zs) rest.0, rest.1)

  pub listed_one : IsOne (Listed m Is) G
  listed_one ts [] ys r s g h n k = absurd g
  listed_one ts (x ∷ xs) [] r s g h n k = absurd h
  listed_one ts (x ∷ xs) (y ∷ ys) r s g h n k =
      let first = one ts x y g.0 h.0 g.1 h.1 (more_front g.0 xs r g.2 n) (more_front h.0 ys s h.2 k) in
      let rest = more_one h.0 xs ys r s (subst (λ (t : List Tok). More m Is t xs r) first.1 g.2) h.2 n k in
      (ap (λ (z : X). z ∷ xs) first.0 ∙ ap (λ (zs : List X). y ∷ zs) rest.0, rest.1)
