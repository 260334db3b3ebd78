-- Lengths of what is printed, with one more piece.
use Rattle.std.proofs.Common.{◌≡◌, ℕ, suc, ◌+◌, ◌-◌, ◌<◌, ◌≤◌, List, ◌++◌, length, get_or, take, drop, ap, ◌∙◌, arith}
use Rattle.std.specs.Prelude.{codes}
use Rattle.std.proofs.lemmas.List.{length-append}
use Rattle.sudo_policy.specs.private.Lengths.{stopped}
use Rattle.sudo_policy.specs.Printing.{alias_text, comma_separated, tail_text}
use Rattle.sudo_policy.proofs.Printed.{tail_suc, first_and_rest}

-- the items after the first, and one more
pub tail_longer : {X : Type 0} (f : X → List ℕ) (xs : List X) (i : ℕ) (d : X) (len more : ℕ) → i < length xs → len ≡ stopped (length (tail_text f (take i xs)))
    → more ≡ stopped (length (f (get_or xs i d))) → stopped (stopped (len + 2) + more) ≡ stopped (length (tail_text f (take (i + 1) xs)))
tail_longer f xs i d len more h len_is more_is =
    let before = tail_text f (take i xs) in
    let one : i + 1 ≡ suc i = omega arith in
    let sum : length ((before ++ codes ", ") ++ f (get_or xs i d)) ≡ (length before + 2) + length (f (get_or xs i d)) =
    length-append (before ++ codes ", ") (f (get_or xs i d)) ∙ ap (λ (n : ℕ). n + length (f (get_or xs i d))) (length-append before (codes ", ")) in
    let whole : length (tail_text f (take (i + 1) xs)) ≡ (length before + 2) + length (f (get_or xs i d)) = rw (one, tail_suc f xs i d h) sum in
    omega (arith, whole, len_is, more_is)

-- a list, by its first item and the others
pub list_longer : {X : Type 0} (f : X → List ℕ) (xs : List X) (d : X) (first rest : ℕ) → 1 ≤ length xs → first ≡ stopped (length (f (get_or xs 0 d)))
    → rest ≡ stopped (length (tail_text f (take (length xs - 1) (drop 1 xs)))) → stopped (first + rest) ≡ stopped (length (comma_separated f xs))
list_longer f xs d first rest h first_is rest_is =
    let others = take (length xs - 1) (drop 1 xs) in
    let whole : length (comma_separated f xs) ≡ length (f (get_or xs 0 d)) + length (tail_text f others) =
    ap (λ ys. length (comma_separated f ys)) (first_and_rest xs d h) ∙ length-append (f (get_or xs 0 d)) (tail_text f others) in
    omega (arith, whole, first_is, rest_is)

-- the line of an alias, by its kind, its name and its list
pub alias_line_longer : (kind name list : List ℕ) (rest : ℕ) → rest ≡ stopped (length list)
    → stopped (stopped ((length kind + 5) + length name) + rest) ≡ stopped (length (alias_text kind name list ++ codes "\n"))
alias_line_longer kind name list rest rest_is =
    let line : length (alias_text kind name list ++ codes "\n") ≡ length (alias_text kind name list) + 1 =
    length-append (alias_text kind name list) (codes "\n") in
    let text : length (alias_text kind name list) ≡ length (kind ++ codes " " ++ name ++ codes " = ") + length list =
    length-append (kind ++ codes " " ++ name ++ codes " = ") list in
    let head : length (kind ++ codes " " ++ name ++ codes " = ") ≡ length (kind ++ codes " " ++ name) + 3 =
    length-append (kind ++ codes " " ++ name) (codes " = ") in
    let named : length (kind ++ codes " " ++ name) ≡ length (kind ++ codes " ") + length name = length-append (kind ++ codes " ") name in
    omega (arith, line, text, head, named, length-append kind (codes " "), rest_is)
