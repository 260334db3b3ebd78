-- Words that are not in a list: one is found, if one more word is looked at than the list has elements.
use Rattle.std.proofs.Common.{◌≡◌, ℕ, zero, suc, ◌+◌, ◌^◌, ◌%◌, ◌<◌, ◌≤◌, Bool, true, ◌&&◌, if◌then◌else◌}
use Rattle.std.proofs.Common.{List, [], ◌∷◌, length, refl, sym, ap, ◌∙◌, inl, inr, ◌⊎◌, arith}
use Rattle.std.specs.Prelude.{codes}
use Rattle.std.specs.Bool.{Decides}
use Rattle.std.specs.Fmt.{decimal}
use Rattle.std.specs.List.{list_any, list_all}
use Rattle.std.proofs.lemmas.Bool.{cases_Bool, false≢true, or_cases, or_left, or_right, and_from}
use Rattle.std.proofs.lemmas.Fmt.{decimal_injective, decimal_by_steps, length-decimal-le}
use Rattle.std.proofs.lemmas.List.{append_cancel_left}
use Rattle.std.proofs.lemmas.List.Folds.{list_all-append}
use Rattle.sudo_beyond.specs.Cases.{other, IsFirstOther}

-- ---- the words

decimal_all : (test : ℕ → Bool) → ((b : ℕ) → b < 10 → test (48 + b) ≡ true) → (k : ℕ) → k < 2 ^ 64 → list_all test (decimal k) ≡ true
decimal_all test digits k small =
    decimal_by_steps (λ n ds. list_all test ds ≡ true)
    (λ n below. and_from (test (48 + n)) true (digits n below) refl)
    (λ n ds above before.
    list_all-append test ds ((48 + n % 10) ∷ [])
    ∙ and_from (list_all test ds) (test (48 + n % 10) && true) before (and_from (test (48 + n % 10)) true (digits (n % 10) (omega arith)) refl))
    k small

pub other_all : (test : ℕ → Bool) → list_all test (codes "other") ≡ true
    → ((b : ℕ) → b < 10 → test (48 + b) ≡ true) → (k : ℕ) → k < 2 ^ 64 → list_all test (other k) ≡ true
other_all test letters digits k small =
    list_all-append test (codes "other") (decimal k)
    ∙ and_from (list_all test (codes "other")) (list_all test (decimal k)) letters (decimal_all test digits k small)

pub other_length : (k : ℕ) → k < 2 ^ 64 → length (other k) ≤ 25
other_length k small = omega (arith, length-decimal-le 20 k (omega arith) (omega arith) small)

pub other_injective : (j k : ℕ) → j < 2 ^ 64 → k < 2 ^ 64 → other j ≡ other k → j ≡ k
other_injective j k small below same = decimal_injective j k small below (append_cancel_left (codes "other") (decimal j) (decimal k) same)

-- ---- a list has no more elements than it is long

module _ {X : Type 0} (eq : X → X → Bool) (decides : (a b : X) → Decides (eq a b) (a ≡ b)) where
  abbrev stands : List X → X → Bool
  stands xs x = list_any (λ y. eq y x) xs

  abbrev without : X → List X → List X
  without x [] = []
  without x (y ∷ ys) = if eq y x then without x ys else y ∷ without x ys

  no_more : (x : X) (ys : List X) → length (without x ys) ≤ length ys
  no_more x [] = omega arith
  no_more x (y ∷ ys) =
      elim (cases_Bool (eq y x)) [
        | inl is ↦ rw is (omega (arith, no_more x ys))
        | inr isn't ↦ rw isn't (omega (arith, no_more x ys))
      ]

  fewer : (x : X) (ys : List X) → stands ys x ≡ true → length (without x ys) < length ys
  fewer x [] found = absurd (false≢true found)
  fewer x (y ∷ ys) found =
      elim (cases_Bool (eq y x)) [
        | inl is ↦ rw is (omega (arith, no_more x ys))
        | inr isn't ↦ let later : stands ys x ≡ true = rw isn't at found in rw isn't (omega (arith, fewer x ys later))
      ]

  still : (x z : X) (ys : List X) → (x ≡ z → ⊥) → stands ys z ≡ true → stands (without x ys) z ≡ true
  still x z [] differ found = found
  still x z (y ∷ ys) differ found =
      elim (cases_Bool (eq y x)) [
        | inl is ↦
            rw is
            (elim (or_cases (eq y z) (stands ys z) found) [
              | inl here ↦ absurd (differ (sym ((decides y x).0 is) ∙ (decides y z).0 here))
              | inr later ↦ still x z ys differ later
            ])
        | inr isn't ↦
            rw isn't
            (elim (or_cases (eq y z) (stands ys z) found) [
              | inl here ↦ or_left (eq y z) (stands (without x ys) z) here
              | inr later ↦ or_right (eq y z) (stands (without x ys) z) (still x z ys differ later)
            ])
      ]

  pub pigeons : (g : ℕ → X) (n : ℕ) → ((i j : ℕ) → i < n → j < n → g i ≡ g j → i ≡ j) → (xs : List X)
      → ((k : ℕ) → k < n → stands xs (g k) ≡ true) → n ≤ length xs
  pigeons g zero apart xs all = omega arith
  pigeons g (suc m) apart xs all =
      let fewer_of = fewer (g m) xs (all m (omega arith)) in
      let rest = pigeons g m (λ i j low high. apart i j (omega arith) (omega arith)) (without (g m) xs)
      (λ k below. still (g m) (g k) xs (λ same. let e : m ≡ k = apart m k (omega arith) (omega arith) same in absurd (omega arith)) (all k (omega arith))) in
      omega arith

-- ---- the first that is not taken

pub record Found (taken : List ℕ → Bool) (most : ℕ) : Type 0 where
  pub word : List ℕ
  pub first : IsFirstOther taken word
  pub low : first.number < most

look : (taken : List ℕ → Bool) (n : ℕ) → ((k : ℕ) → k < n → taken (other k) ≡ true) ⊎ Found taken n
look taken zero = inl (λ k below. absurd (omega arith))
look taken (suc m) =
    elim (look taken m) [
      | inl all ↦
          elim (cases_Bool (taken (other m))) [
            | inl taken_too ↦ inl (λ k below. elim (last k below) [ inl e ↦ ap (λ (j : ℕ). taken (other j)) e ∙ taken_too | inr lower ↦ all k lower ])
            | inr unused ↦ inr (record { word = other m; first = record { number = m; word_is = refl; free = unused; first = all }; low = omega arith })
          ]
      | inr found ↦ inr (record { word = found.word; first = found.first; low = omega (arith, found.low) })
    ]
  where
    last : (k : ℕ) → k < suc m → (k ≡ m) ⊎ (k < m)
    last k below = grind arith

-- the first other word that f takes to a value outside the list: one of the first length xs + 1 words
pub found_other : {X : Type 0} (eq : X → X → Bool) → ((a b : X) → Decides (eq a b) (a ≡ b)) → (f : List ℕ → X) → ((v w : List ℕ) → f v ≡ f w → v ≡ w)
    → (xs : List X) → length xs < 2 ^ 64 → Found (λ w. list_any (λ y. eq y (f w)) xs) (length xs + 1)
found_other {X} eq decides f apart xs short =
    elim (look (λ w. list_any (λ y. eq y (f w)) xs) (length xs + 1)) [
      | inl all ↦
          let most : length xs + 1 ≤ length xs =
          pigeons eq decides (λ k. f (other k))
          (length xs + 1) (λ i j low high same. other_injective i j (omega arith) (omega arith) (apart (other i) (other j) same)) xs all in
          absurd (omega arith)
      | inr found ↦ found
    ]
