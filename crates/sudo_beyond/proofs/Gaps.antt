-- The cases that are gone through, level by level.
use Rattle.std.proofs.Common.{◌≡◌, ℕ, ◌+◌, ◌<◌, suc, Option, Some, None, List, [], ◌∷◌, ◌++◌}
use Rattle.std.proofs.Common.{length, take, drop, get_or, refl, sym, ap, ◌∙◌, subst, append_assoc}
use Rattle.std.specs.Prelude.{Result, Ok, Err, IfOk}
use Rattle.std.specs.List.{AllByRecursion, flat_map, slice_get}
use Rattle.std.proofs.Math.Seq.{split_at}
use Rattle.std.proofs.lemmas.Grind.{flat_map-append}
use Rattle.sudo_decide.specs.declared.invocation.Invocation.{Invocation}
use Rattle.sudo_beyond.specs.Answer.{FirstOf, IsFirstWith}
use Rattle.sudo_beyond.proofs.AlikeLemmas.{all_append, all_front, all_back}
use Rattle.sudo_words.proofs.Lists.{take_next}

-- P holds of none of the cases
abbrev pub NoGap : (Invocation → Type 0) → List Invocation → Type 0
NoGap P cases = AllByRecursion (λ i. P i → ⊥) cases

module _ {X : Type 0} (P : Invocation → Type 0) (f : X → List Invocation) (xs : List X) (k : ℕ) where
  pub gaps_more : (x : X) → k < length xs → x ≡ get_or xs k x → NoGap P (flat_map f (take k xs)) → NoGap P (f x) → NoGap P (flat_map f (take (k + 1) xs))
  gaps_more x below is before here =
      let one : flat_map f (x ∷ []) ≡ f x ++ [] = refl in
      subst (λ (ys : List X). NoGap P (flat_map f ys)) (sym (take_next xs k x below is))
      (subst (λ (is : List Invocation). NoGap P is) (sym (flat_map-append f (take k xs) (x ∷ [])))
      (all_append (λ i. P i → ⊥) (flat_map f (take k xs)) (f x ++ []) before (all_append (λ i. P i → ⊥) (f x) [] here tt)))

  pub gap_here : (x : X) (i : Invocation) → k < length xs → x ≡ get_or xs k x
      → NoGap P (flat_map f (take k xs)) → IsFirstWith P (f x) i → IsFirstWith P (flat_map f xs) i
  gap_here x i below is before first =
      let front : List Invocation = flat_map f (take k xs) in
      let behind : List Invocation = flat_map f (drop (suc k) xs) in
      let cut : xs ≡ take k xs ++ x ∷ drop (suc k) xs = split_at xs k x below ∙ ap (λ (y : X). take k xs ++ y ∷ drop (suc k) xs) (sym is) in
      record {
        before = front ++ first.before;
        after = first.after ++ behind;
        list_is =
            ap (flat_map f) cut
            ∙ flat_map-append f (take k xs) (x ∷ drop (suc k) xs)
            ∙ ap (λ (own : List Invocation). front ++ (own ++ behind)) first.list_is
            ∙ ap (λ (rest : List Invocation). front ++ rest) (append_assoc first.before (i ∷ first.after) behind)
            ∙ sym (append_assoc front first.before (i ∷ (first.after ++ behind)));
        here = first.here;
        none_before = all_append (λ j. P j → ⊥) front first.before before first.none_before;
      }

-- where P and Q hold of the same cases, one is the first of both
weaker_none : (P Q : Invocation → Type 0) (cases : List Invocation) → ((i : Invocation) → Q i → P i) → NoGap P cases → NoGap Q cases
weaker_none P Q [] back none = tt
weaker_none P Q (i ∷ cases) back none = (λ q. none.0 (back i q), weaker_none P Q cases back none.1)

pub first_of_same : (P Q : Invocation → Type 0) (cases : List Invocation) (found : Option Invocation)
    → ((i : Invocation) → P i → Q i) → ((i : Invocation) → Q i → P i) → FirstOf P cases found → FirstOf Q cases found
first_of_same P Q cases None on back none = weaker_none P Q cases back none
first_of_same P Q cases (Some i) on back first = record {
  before = first.before;
  after = first.after;
  list_is = first.list_is;
  here = on i first.here;
  none_before = weaker_none P Q first.before back first.none_before;
}

-- the same, where S holds of all cases, and P and Q hold of the same cases wherever S holds
weaker_none_on : (S P Q : Invocation → Type 0) (cases : List Invocation)
    → ((i : Invocation) → S i → Q i → P i) → AllByRecursion S cases → NoGap P cases → NoGap Q cases
weaker_none_on S P Q [] back all none = tt
weaker_none_on S P Q (i ∷ cases) back all none = (λ q. none.0 (back i all.0 q), weaker_none_on S P Q cases back all.1 none.1)

pub first_of_same_on : (S P Q : Invocation → Type 0) (cases : List Invocation) (found : Option Invocation) → ((i : Invocation) → S i → P i → Q i)
    → ((i : Invocation) → S i → Q i → P i) → AllByRecursion S cases → FirstOf P cases found → FirstOf Q cases found
first_of_same_on S P Q cases None on back all none = weaker_none_on S P Q cases back all none
first_of_same_on S P Q cases (Some i) on back all first =
    let parts : AllByRecursion S (first.before ++ i ∷ first.after) = subst (λ (is : List Invocation). AllByRecursion S is) first.list_is all in
    let rest : AllByRecursion S (i ∷ first.after) = all_back S first.before (i ∷ first.after) parts in
    record {
      before = first.before;
      after = first.after;
      list_is = first.list_is;
      here = on i rest.0 first.here;
      none_before = weaker_none_on S P Q first.before back (all_front S first.before (i ∷ first.after) parts) first.none_before;
    }

-- where f makes only empty lists, there is no gap in all of them together
pub gaps_of_none : {X : Type 0} (P : Invocation → Type 0) (f : X → List Invocation) (xs : List X) → ((x : X) → f x ≡ []) → NoGap P (flat_map f xs)
gaps_of_none P f [] none = tt
gaps_of_none P f (x ∷ xs) none =
    all_append (λ i. P i → ⊥) (f x) (flat_map f xs) (subst (λ (is : List Invocation). NoGap P is) (sym (none x)) tt) (gaps_of_none P f xs none)

pub none_is_empty : {X : Type 0} (xs : List X) → slice_get xs 0 ≡ None → xs ≡ []
none_is_empty [] none = refl
none_is_empty (x ∷ xs) none = absurd (cc)

pub if_ok : {A E : Type 0} {P Q : A → Type 0} (r : Result A E) → ((x : A) → P x → Q x) → IfOk r P → IfOk r Q
if_ok (Ok x) f p = f x p
if_ok (Err e) f p = p
