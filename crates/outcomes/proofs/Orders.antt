-- Lists in a strict order are determined by their elements.
use Rattle.std.proofs.Common.{◌≡◌, ◌≤◌, List, [], ◌∷◌, ◌++◌, length, refl, sym, ◌∙◌, subst, arith, inl, inr, ◌⊎◌}
use Rattle.std.specs.List.{Contains}
use Rattle.messages.specs.Order.{AllAfter, AreInOrder}
use Rattle.outcomes.specs.HostFile.{Line, LinePrecedes}
use Rattle.outcomes.specs.Outcomes.{LiveGrant, LivePrecedes}
use Rattle.messages.proofs.NameOrder.{names_strict, not_precede_same}
use Rattle.outcomes.proofs.Membership.{no_member, Contains-head, Contains-behind, Contains-cases}

-- ---- any order

module _ {X : Type 0} (P : X → X → Type 0) where
  pub behind_each : (a : X) (ys : List X) → AllAfter P a ys → (x : X) → Contains ys x → P a x
  behind_each a [] all x m = absurd (no_member x m)
  behind_each a (b ∷ ys) all x m =
      elim (Contains-cases b ys x m) as (λ _. P a x) [ inl same ↦ subst (P a) same all.0 | inr later ↦ behind_each a ys all.1 x later ]

  pub behind_from_each : (a : X) (xs : List X) → ((x : X) → Contains xs x → P a x) → AllAfter P a xs
  behind_from_each a [] f = tt
  behind_from_each a (x ∷ xs) f = (f x (Contains-head x xs), behind_from_each a xs (λ y m. f y (Contains-behind x xs y m)))

  behind_both : (a : X) (xs ys : List X) → AllAfter P a xs → AllAfter P a ys → AllAfter P a (xs ++ ys)
  behind_both a [] ys f g = g
  behind_both a (x ∷ xs) ys f g = (f.0, behind_both a xs ys f.1 g)

  pub ordered_both : (xs ys : List X) → AreInOrder P xs → AreInOrder P ys → ((x y : X) → Contains xs x → Contains ys y → P x y) → AreInOrder P (xs ++ ys)
  ordered_both [] ys f g before = g
  ordered_both (x ∷ xs) ys f g before = (
    behind_both x xs ys f.0 (behind_from_each x ys (λ y m. before x y (Contains-head x xs) m)),
    ordered_both xs ys f.1 g (λ a b m n. before a b (Contains-behind x xs a m) n),
  )

  behind_front : (a : X) (xs ys : List X) → AllAfter P a (xs ++ ys) → AllAfter P a xs
  behind_front a [] ys all = tt
  behind_front a (x ∷ xs) ys all = (all.0, behind_front a xs ys all.1)

  pub ordered_front : (xs ys : List X) → AreInOrder P (xs ++ ys) → AreInOrder P xs
  ordered_front [] ys o = tt
  ordered_front (x ∷ xs) ys o = (behind_front x xs ys o.0, ordered_front xs ys o.1)

-- ---- a strict one

module _ {X : Type 0} (P : X → X → Type 0) (strict : (a b : X) → P a b → P b a → ⊥) where
  same_head : (a b : X) (xs ys : List X) → AllAfter P a xs → AllAfter P b ys → (a ≡ b) ⊎ Contains xs b → (b ≡ a) ⊎ Contains ys a → a ≡ b
  same_head a b xs ys o p (inl same) g = same
  same_head a b xs ys o p (inr f) (inl same) = sym same
  same_head a b xs ys o p (inr f) (inr g) = absurd (strict a b (behind_each P a xs o b f) (behind_each P b ys p a g))

  -- what the first list's tail shares with the other list is in the other's tail: it is not the head, which comes before it
  same_tail : (a b : X) (xs ys : List X) → a ≡ b → AllAfter P a xs → (x : X) → Contains xs x → (b ≡ x) ⊎ Contains ys x → Contains ys x
  same_tail a b xs ys same o x m (inl double) =
      let before : P a a = subst (P a) (sym double ∙ sym same) (behind_each P a xs o x m) in
      absurd (strict a a before before)
  same_tail a b xs ys same o x m (inr later) = later

  pub same_lists : (xs ys : List X) → AreInOrder P xs → AreInOrder P ys
      → ((x : X) → Contains xs x → Contains ys x) → ((x : X) → Contains ys x → Contains xs x) → xs ≡ ys
  same_lists [] [] o p f g = refl
  same_lists [] (b ∷ ys) o p f g = absurd (no_member b (g b (Contains-head b ys)))
  same_lists (a ∷ xs) [] o p f g = absurd (no_member a (f a (Contains-head a xs)))
  same_lists (a ∷ xs) (b ∷ ys) o p f g =
      let head : a ≡ b =
      same_head a b xs ys o.0 p.0 (Contains-cases a xs b (g b (Contains-head b ys))) (Contains-cases b ys a (f a (Contains-head a xs))) in
      let tail : xs ≡ ys =
      same_lists xs ys o.1 p.1 (λ x m. same_tail a b xs ys head o.0 x m (Contains-cases b ys x (f x (Contains-behind a xs x m))))
      (λ x m. same_tail b a ys xs (sym head) p.0 x m (Contains-cases a xs x (g x (Contains-behind b ys x m)))) in
      cc

  -- if the head of the second list precedes that of the first, what the lists share is in the second one's tail
  past_head : (a b : X) (xs ys : List X) → P b a → AllAfter P a xs → (x : X) → Contains (a ∷ xs) x → (b ≡ x) ⊎ Contains ys x → Contains ys x
  past_head a b xs ys before o x m (inl same) =
      absurd (elim (Contains-cases a xs x m) as (λ _. ⊥) [
        | inl here ↦ let self : P b b = subst (P b) (here ∙ sym same) before in strict b b self self
        | inr later ↦ strict b a before (subst (P a) (sym same) (behind_each P a xs o x later))
      ])
  past_head a b xs ys before o x m (inr later) = later

  -- what another list contains is no longer than it
  pub no_longer : (xs ys : List X) → AreInOrder P xs → AreInOrder P ys → ((x : X) → Contains xs x → Contains ys x) → length xs ≤ length ys
  no_longer [] ys o p f = omega arith
  no_longer (a ∷ xs) [] o p f = absurd (no_member a (f a (Contains-head a xs)))
  no_longer (a ∷ xs) (b ∷ ys) o p f =
      elim (Contains-cases b ys a (f a (Contains-head a xs))) as (λ _. length (a ∷ xs) ≤ length (b ∷ ys)) [
        | inl same ↦
            let shorter : length xs ≤ length ys =
            no_longer xs ys o.1 p.1 (λ x m. same_tail a b xs ys (sym same) o.0 x m (Contains-cases b ys x (f x (Contains-behind a xs x m)))) in
            omega (arith, shorter)
        | inr later ↦
            let shorter : length (a ∷ xs) ≤ length ys =
            no_longer (a ∷ xs) ys o p.1 (λ x m. past_head a b xs ys (behind_each P b ys p.0 a later) o.0 x m (Contains-cases b ys x (f x m))) in
            omega (arith, shorter)
      ]

-- ---- lines and grants

pub lines_strict : (a b : Line) → LinePrecedes a b → LinePrecedes b a → ⊥
lines_strict a b (inl f) (inl g) = names_strict a.name b.name f g
lines_strict a b (inl f) (inr g) = not_precede_same a.name b.name f (sym g.0)
lines_strict a b (inr f) (inl g) = not_precede_same b.name a.name g (sym f.0)
lines_strict a b (inr f) (inr g) = omega (arith, f.1, g.1)

pub live_strict : (a b : LiveGrant) → LivePrecedes a b → LivePrecedes b a → ⊥
live_strict a b f g = names_strict a.name b.name f g
