-- Tests of lists, as facts about their members.
use Rattle.std.proofs.Common.{◌≡◌, ℕ, Bool, true, false, List, [], ◌∷◌, refl, subst, inl, inr}
use Rattle.std.specs.Prelude.{Contains}
use Rattle.std.specs.List.{list_all, list_any}
use Rattle.std.specs.Str.{bytes_eq}
use Rattle.std.proofs.lemmas.Bool.{and_cases, both_ways, true≢false}
use Rattle.std.proofs.lemmas.List.Elements.{All-contains, Contains-append_left, Contains-append_right, Contains-push}
use Rattle.std.proofs.lemmas.List.Folds.{Any-from_list_any, list_any-from_Any}
use Rattle.std.proofs.lemmas.List.Sums.{AllPass-from_list_all}
use Rattle.std.proofs.lemmas.Slice.Eq.{bytes_eq-Decides}
use Rattle.roster.specs.Rules.{is_among}

pub Contains-head : {X : Type 0} (x : X) (xs : List X) → Contains (x ∷ xs) x
Contains-head x xs = Contains-append_left (x ∷ []) xs x (Contains-push [] x)

pub Contains-behind : {X : Type 0} (y : X) (xs : List X) (x : X) → Contains xs x → Contains (y ∷ xs) x
Contains-behind y xs x m = Contains-append_right (y ∷ []) xs x m

module _ {X : Type 0} (p : X → Bool) where
  pub each_passes : (xs : List X) → list_all p xs ≡ true → (x : X) → Contains xs x → p x ≡ true
  each_passes xs e x m = All-contains (λ y. p y ≡ true) xs x (AllPass-from_list_all p xs e) m

  pub one_fails : (xs : List X) → list_all p xs ≡ false → (x : X) × Contains xs x × (p x ≡ false)
  one_fails [] e = absurd (true≢false e)
  one_fails (x ∷ xs) e =
      elim (and_cases (p x) (list_all p xs) e) as (λ _. (y : X) × Contains (x ∷ xs) y × (p y ≡ false)) [
        | inl fails ↦ (x, Contains-head x xs, fails)
        | inr behind ↦ let one = one_fails xs behind in (one.0, Contains-behind x xs one.0 one.1, one.2)
      ]

  pub one_passes : (xs : List X) → list_any p xs ≡ true → (x : X) × Contains xs x × (p x ≡ true)
  one_passes xs e = let one = Any-from_list_any p xs e in (one.1, (one.0, one.2, one.3), one.4)

  pub passes : (xs : List X) (x : X) → Contains xs x → p x ≡ true → list_any p xs ≡ true
  passes xs x m e = list_any-from_Any p xs (m.0, x, m.1, m.2, e)

-- ---- a text among others

pub member : (words : List (List ℕ)) (w : List ℕ) → is_among words w ≡ true → Contains words w
member words w e =
    let one = one_passes (λ v. bytes_eq v w) words e in
    subst (Contains words) ((bytes_eq-Decides one.0 w).0 one.2) one.1

pub no_member : (words : List (List ℕ)) (w : List ℕ) → is_among words w ≡ false → ¬ Contains words w
no_member words w e m = both_ways (is_among words w) e (passes (λ v. bytes_eq v w) words w m ((bytes_eq-Decides w w).1 refl))
