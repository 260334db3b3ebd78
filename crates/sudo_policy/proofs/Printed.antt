-- What is printed so far, with one more piece.
use Rattle.std.proofs.Common.{◌≡◌, ℕ, zero, suc, ◌+◌, ◌-◌, ◌<◌, ◌≤◌, List, [], ◌∷◌, ◌++◌, length, get_or, take, drop, sym, ap, ◌∙◌, append_assoc, arith}
use Rattle.std.specs.Prelude.{codes}
use Rattle.std.specs.List.{AllByRecursion}
use Rattle.std.proofs.lemmas.List.{append-nil, take_rest}
use Rattle.sudo_policy.specs.Printing.{alias_text, tail_text}

pub tail_suc : {X : Type 0} (f : X → List ℕ) (xs : List X) (i : ℕ) (d : X) → i < length xs
    → tail_text f (take (suc i) xs) ≡ (tail_text f (take i xs) ++ codes ", ") ++ f (get_or xs i d)
tail_suc f [] i d h = absurd (omega arith)
tail_suc f (x ∷ xs) zero d h = simp append-nil
tail_suc f (x ∷ xs) (suc i) d h =
    ap (λ (t : List ℕ). (codes ", " ++ f x) ++ t) (tail_suc f xs i d (omega arith)) ∙ simp append_assoc

-- the items after the first
pub tail_more : {X : Type 0} (f : X → List ℕ) (xs : List X) (i : ℕ) (d : X) (old : List ℕ) → i < length xs
    → ((old ++ tail_text f (take i xs)) ++ codes ", ") ++ f (get_or xs i d) ≡ old ++ tail_text f (take (i + 1) xs)
tail_more f xs i d old h =
    let one : i + 1 ≡ suc i = omega arith in
    rw (one, tail_suc f xs i d h) (simp append_assoc)

-- the list of an alias, after what stands before it
pub head_and_list : (old kind name list : List ℕ) → (old ++ alias_text kind name []) ++ list ≡ old ++ alias_text kind name list
head_and_list old kind name list = simp append_assoc

-- a list is its first item and what the code takes as the others
pub first_and_rest : {X : Type 0} (xs : List X) (d : X) → 1 ≤ length xs → xs ≡ get_or xs 0 d ∷ take (length xs - 1) (drop 1 xs)
first_and_rest [] d h = absurd (omega arith)
first_and_rest (x ∷ xs) d h = ap (λ ys. x ∷ ys) (sym (take_rest (x ∷ xs) 1))

-- what holds of each element holds of the one at a place
pub each_at : {X : Type 0} (P : X → Type 0) (xs : List X) (i : ℕ) (d : X) → AllByRecursion P xs → i < length xs → P (get_or xs i d)
each_at P [] i d all h = absurd (omega arith)
each_at P (x ∷ xs) zero d all h = all.0
each_at P (x ∷ xs) (suc i) d all h = each_at P xs i d all.1 (omega arith)
