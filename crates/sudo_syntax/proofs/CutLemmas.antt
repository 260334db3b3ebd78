-- A list cut where a test first fails, as the code cuts it.
use Rattle.std.proofs.Common.{◌≡◌, ℕ, suc, ◌+◌, ◌<◌, Bool, true, false, cond, List, [], ◌∷◌, length, take, drop, refl, ap, ◌∙◌, arith}
use Rattle.std.specs.Prelude.{take_while}
use Rattle.std.specs.List.{prefix_len}
use Rattle.std.proofs.lemmas.List.{append-nil}
use Rattle.sudo_policy.specs.private.Cuts.{IsCut}

cut_more : (p : ℕ → Bool) (b : ℕ) (bs front rest : List ℕ) → p b ≡ true → IsCut p bs front rest → IsCut p (b ∷ bs) (b ∷ front) rest
cut_more p b bs front rest passes c = record { whole = ap (λ (t : List ℕ). b ∷ t) c.whole; each = (passes, c.each); stops = c.stops }

-- the front that `take_while` gives, by its length, and what is left
pub cut_is : (p : ℕ → Bool) (bytes : List ℕ) → IsCut p bytes (take (length (take_while p bytes)) bytes) (drop (length (take_while p bytes)) bytes)
cut_is p [] = record { whole = refl; each = tt; stops = tt }
cut_is p (b ∷ bs) =
    let one : 1 + prefix_len p bs ≡ suc (prefix_len p bs) = omega arith in
    elim (p b) as (λ v. p b ≡ v → IsCut p (b ∷ bs) (take (length (take (cond v (1 + prefix_len p bs) 0) (b ∷ bs))) (b ∷ bs))
    (drop (length (take (cond v (1 + prefix_len p bs) 0) (b ∷ bs))) (b ∷ bs))) [
      | true ↦ λ e. rw one (cut_more p b bs _ _ e (cut_is p bs))
      | false ↦ λ e. record { whole = refl; each = tt; stops = e }
    ] refl

-- where nothing is left, the front is all
pub cut_all : (p : ℕ → Bool) (bytes front rest : List ℕ) → IsCut p bytes front rest → length rest < 1 → bytes ≡ front
cut_all p bytes front [] c none = c.whole ∙ append-nil front
cut_all p bytes front (b ∷ bs) c none = absurd (omega arith)
