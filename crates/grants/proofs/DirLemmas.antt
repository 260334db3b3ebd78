-- Files directly in a directory.
use Rattle.std.proofs.Common.{◌≡◌, ℕ, Bool, true, ◌==◌, List, [], ◌∷◌, ◌++◌, refl, sym, ap, ◌∙◌, inl, inr}
use Rattle.std.specs.List.{slice_split, onto_first, list_all}
use Rattle.std.proofs.lemmas.Bool.{cases_Bool, and_parts, and_from, both_ways}
use Rattle.std.proofs.lemmas.List.Splits.{slice_split-cons_yes, slice_split-cons_no}
use Rattle.std.proofs.lemmas.List.Folds.{list_all-append}
use Rattle.sudo_words.specs.Word.{is_component, are_components, is_absolute}

abbrev pub is_slash : ℕ → Bool
is_slash b = b == 47

parts_of : (xs : List ℕ) → (w : List ℕ) × (ws : List (List ℕ)) × (slice_split is_slash xs ≡ w ∷ ws)
parts_of [] = ([], [], refl)
parts_of (x ∷ xs) =
    elim (cases_Bool (is_slash x)) as (λ _. (w : List ℕ) × (ws : List (List ℕ)) × (slice_split is_slash (x ∷ xs) ≡ w ∷ ws)) [
      | inl e ↦ ([], slice_split is_slash xs, slice_split-cons_yes is_slash x xs e)
      | inr e ↦ let r = parts_of xs in (x ∷ r.0, r.1, slice_split-cons_no is_slash x xs e ∙ ap (onto_first x) r.2)
    ]

onto_joined : (x : ℕ) (xs : List ℕ) (more : List (List ℕ)) → onto_first x (slice_split is_slash xs ++ more) ≡ onto_first x (slice_split is_slash xs) ++ more
onto_joined x xs more =
    let r = parts_of xs in
    ap (λ (z : List (List ℕ)). onto_first x (z ++ more)) r.2 ∙ sym (ap (λ (z : List (List ℕ)). onto_first x z ++ more) r.2)

pub split_joined : (xs ys : List ℕ) → slice_split is_slash (xs ++ 47 ∷ ys) ≡ slice_split is_slash xs ++ slice_split is_slash ys
split_joined [] ys = slice_split-cons_yes is_slash 47 ys refl
split_joined (x ∷ xs) ys =
    elim (cases_Bool (is_slash x)) as (λ _. slice_split is_slash ((x ∷ xs) ++ 47 ∷ ys) ≡ slice_split is_slash (x ∷ xs) ++ slice_split is_slash ys) [
      | inl e ↦ slice_split-cons_yes is_slash x (xs ++ 47 ∷ ys) e ∙ ap (λ (z : List (List ℕ)). [] ∷ z) (split_joined xs ys)
          ∙ sym (ap (λ (z : List (List ℕ)). z ++ slice_split is_slash ys) (slice_split-cons_yes is_slash x xs e))
      | inr e ↦ slice_split-cons_no is_slash x (xs ++ 47 ∷ ys) e ∙ ap (onto_first x) (split_joined xs ys) ∙ onto_joined x xs (slice_split is_slash ys)
          ∙ sym (ap (λ (z : List (List ℕ)). z ++ slice_split is_slash ys) (slice_split-cons_no is_slash x xs e))
    ]

components_joined : (xs ys : List ℕ) → are_components xs ≡ true → are_components ys ≡ true → are_components (xs ++ 47 ∷ ys) ≡ true
components_joined xs ys h k =
    ap (list_all is_component) (split_joined xs ys)
    ∙ list_all-append is_component (slice_split is_slash xs) (slice_split is_slash ys)
    ∙ and_from _ _ h k

pub absolute_joined : (xs ys : List ℕ) → is_absolute xs ≡ true → are_components ys ≡ true → is_absolute (xs ++ 47 ∷ ys) ≡ true
absolute_joined [] ys h k = absurd (both_ways _ refl h)
absolute_joined (x ∷ xs) ys h k =
    let parts = and_parts (x == 47) (are_components xs) h in
    and_from (x == 47) _ parts.0 (components_joined xs ys parts.1 k)
