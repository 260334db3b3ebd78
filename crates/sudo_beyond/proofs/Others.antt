-- The first other word that is not taken: there is only one, and no more words are taken than the list has elements.
use Rattle.std.proofs.Common.{◌≡◌, ℕ, ◌+◌, ◌^◌, ◌<◌, ◌≤◌, Bool, true, List, length, refl, sym, ap, ◌∙◌, inl, inr, arith}
use Rattle.std.specs.Bool.{Decides}
use Rattle.std.specs.List.{list_any}
use Rattle.std.proofs.lemmas.Bool.{cases_Bool, cases_order, cases_lt, false≢true}
use Rattle.sudo_beyond.specs.Cases.{other, IsFirstOther}
use Rattle.sudo_beyond.proofs.Fresh.{pigeons, other_injective}

number_not_lower : (taken : List ℕ → Bool) (v w : List ℕ) (f : IsFirstOther taken v) (g : IsFirstOther taken w) → f.number < g.number → ⊥
number_not_lower taken v w f g lower = false≢true (sym f.free ∙ ap taken f.word_is ∙ g.first f.number lower)

pub one_first : (taken : List ℕ → Bool) (v w : List ℕ) → IsFirstOther taken v → IsFirstOther taken w → v ≡ w
one_first taken v w f g =
    elim (cases_order f.number g.number) [
      | inl e ↦ f.word_is ∙ ap other e ∙ sym g.word_is
      | inr (inl lower) ↦ absurd (number_not_lower taken v w f g lower)
      | inr (inr higher) ↦ absurd (number_not_lower taken w v g f higher)
    ]

module _ {X : Type 0} (eq : X → X → Bool) (decides : (a b : X) → Decides (eq a b) (a ≡ b)) (f : List ℕ
    → X) (apart : (v w : List ℕ) → f v ≡ f w → v ≡ w) (xs : List X) where
  abbrev is_taken : List ℕ → Bool
  is_taken w = list_any (λ y. eq y (f w)) xs

  -- where the first n words are all taken, the list has at least n elements
  taken_few : (n : ℕ) → n ≤ 2 ^ 64 → ((k : ℕ) → k < n → is_taken (other k) ≡ true) → n ≤ length xs
  taken_few n small all =
      pigeons eq decides (λ k. f (other k)) n (λ i j low high same. other_injective i j (omega arith) (omega arith) (apart (other i) (other j) same)) xs all

  -- where the first n words are taken and the list is no longer than n, the next word is not taken
  pub last_free : (n : ℕ) → length xs ≤ n → n < 2 ^ 64 → ((k : ℕ) → k < n → is_taken (other k) ≡ true) → IsFirstOther is_taken (other n)
  last_free n few small all =
      record {
        number = n;
        word_is = refl;
        free =
            elim (cases_Bool (is_taken (other n))) [
              | inl taken ↦ let most = taken_few (n + 1) (omega arith) (next taken) in absurd (omega arith)
              | inr is ↦ is
            ];
        first = all;
      }
    where
      next : is_taken (other n) ≡ true → (k : ℕ) → k < n + 1 → is_taken (other k) ≡ true
      next taken k below =
          elim (cases_order k n) [
            | inl e ↦ ap (λ (j : ℕ). is_taken (other j)) e ∙ taken
            | inr (inl lower) ↦ all k lower
            | inr (inr higher) ↦ absurd (omega arith)
          ]

  -- its number is one that a machine can count
  pub number_low : (word : List ℕ) (first : IsFirstOther is_taken word) → length xs < 2 ^ 64 → first.number < 2 ^ 64
  number_low word first short =
      elim (cases_lt first.number (2 ^ 64)) [
        | inl low ↦ low
        | inr high ↦
            let most = taken_few (length xs + 1) (omega arith) (λ k below. first.first k (omega arith)) in absurd (omega arith)
      ]
