-- The lines of a report, as loops add them.
use Rattle.std.proofs.Common.{◌≡◌, ℕ, Bool, true, false, if◌then◌else◌, zero, suc, ◌+◌, ◌<◌, ◌≤◌, List, []}
use Rattle.std.proofs.Common.{◌∷◌, ◌++◌, length, map, take, get_or, sym, ap, ◌∙◌, subst, arith, append_assoc}
use Rattle.std.specs.List.{AllByRecursion, flat_map}
use Rattle.std.specs.Prelude.{codes}
use Rattle.std.proofs.lemmas.Grind.{flat_map-append}
use Rattle.std.proofs.lemmas.List.{append-nil, map-append, take_all}
use Rattle.sudo_words.specs.Lists.{AreParts}
use Rattle.review.specs.Columns.{lines_text}
use Rattle.review.specs.private.Reporting.{AddsLines}
use Rattle.sudo_words.proofs.Lists.{parts_more, take_next}

pub lines_both : (xs ys : List (List ℕ)) → lines_text (xs ++ ys) ≡ lines_text xs ++ lines_text ys
lines_both xs ys = flat_map-append (λ (line : List ℕ). line ++ codes "\n") xs ys

-- an element of a list has what all its elements have
pub at_place : {X : Type 0} (P : X → Type 0) (xs : List X) (k : ℕ) (x : X) → k < length xs → x ≡ get_or xs k x → AllByRecursion P xs → P x
at_place P [] k x below is all = absurd (omega (arith, below))
at_place P (y ∷ ys) zero x below is all = subst P (sym is) all.0
at_place P (y ∷ ys) (suc k) x below is all = at_place P ys k x (omega (arith, below)) is all.1

-- what a loop has shown at its end
pub whole_list : {X : Type 0} (P : List X → Type 0) (xs : List X) (k : ℕ) → length xs ≤ k → P (take k xs) → P xs
whole_list P xs k past is = subst P (take_all k xs past) is

-- ---- one more part, and one more element's lines

pub more_lines : {X : Type 0} (IsPart : X → List (List ℕ) → Type 0) (xs : List X) (k : ℕ) (x : X) (old mid new : List ℕ) → k < length xs → x ≡ get_or xs k x
    → AddsLines (AreParts IsPart (take k xs)) old mid → AddsLines (IsPart x) mid new → AddsLines (AreParts IsPart (take (k + 1) xs)) old new
more_lines {X} IsPart xs k x old mid new below is before adds =
    subst (λ (zs : List X). AddsLines (AreParts IsPart zs) old new) (sym (take_next xs k x below is)) (
      before.0 ++ adds.0,
      adds.1 ∙ ap (λ (t : List ℕ). t ++ lines_text adds.0) before.1
          ∙ append_assoc old (lines_text before.0) (lines_text adds.0)
          ∙ ap (λ (t : List ℕ). old ++ t) (sym (lines_both before.0 adds.0)),
      parts_more IsPart (take k xs) x before.0 adds.0 before.2 adds.2,
    )

pub flat_more : {X : Type 0} (lines : X → List (List ℕ)) (xs : List X) (k : ℕ) (x : X) (old mid new : List ℕ) → k < length xs → x ≡ get_or xs k x
    → mid ≡ old ++ lines_text (flat_map lines (take k xs)) → new ≡ mid ++ lines_text (lines x) → new ≡ old ++ lines_text (flat_map lines (take (k + 1) xs))
flat_more {X} lines xs k x old mid new below is before adds =
    let part : flat_map lines (take k xs ++ x ∷ []) ≡ flat_map lines (take k xs) ++ lines x =
    flat_map-append lines (take k xs) (x ∷ []) ∙ ap (λ (l : List (List ℕ)). flat_map lines (take k xs) ++ l) (append-nil (lines x)) in
    adds ∙ ap (λ (t : List ℕ). t ++ lines_text (lines x)) before
    ∙ append_assoc old (lines_text (flat_map lines (take k xs))) (lines_text (lines x))
    ∙ ap (λ (t : List ℕ). old ++ t) (sym (lines_both (flat_map lines (take k xs)) (lines x)))
    ∙ ap (λ (l : List (List ℕ)). old ++ lines_text l) (sym part)
    ∙ ap (λ (zs : List X). old ++ lines_text (flat_map lines zs)) (sym (take_next xs k x below is))

pub parts_mapped : {X Y Z : Type 0} (IsPart : Y → List Z → Type 0) (name : X → Y) (xs : List X) (ys : List Z)
    → AreParts (λ x. IsPart (name x)) xs ys → AreParts IsPart (map name xs) ys
parts_mapped IsPart name [] ys are = are
parts_mapped IsPart name (x ∷ xs) ys are = (are.0, are.1, are.2, are.3, parts_mapped IsPart name xs are.1 are.4)

pub one_line : (old line new : List ℕ) → new ≡ old ++ line ++ codes "\n" → new ≡ old ++ lines_text (line ∷ [])
one_line old line new e = e ∙ append_assoc old line (codes "\n") ∙ ap (λ (t : List ℕ). old ++ t) (sym (append-nil (line ++ codes "\n")))

-- ---- whole sections

-- a first line, the first heading, and its lines
pub first_section : (head : List ℕ) (more : List (List ℕ)) (old new : List ℕ) → old ≡ head ++ codes "\nLIVE\n"
    → new ≡ old ++ lines_text more → new ≡ lines_text (head ∷ codes "LIVE" ∷ more)
first_section head more old new headed adds =
    adds ∙ ap (λ (t : List ℕ). t ++ lines_text more) headed
    ∙ append_assoc head (codes "\nLIVE\n") (lines_text more)
    ∙ sym (append_assoc head (codes "\n") (codes "LIVE\n" ++ lines_text more))

-- a further heading, and its lines
pub next_section : (lines : List (List ℕ)) (title : List ℕ) (more : List (List ℕ)) (old mid new : List ℕ) → old ≡ lines_text lines
    → mid ≡ old ++ (title ++ codes "\n") → new ≡ mid ++ lines_text more → new ≡ lines_text (lines ++ title ∷ more)
next_section lines title more old mid new before headed adds =
    adds ∙ ap (λ (t : List ℕ). t ++ lines_text more) headed
    ∙ append_assoc old (title ++ codes "\n") (lines_text more)
    ∙ ap (λ (t : List ℕ). t ++ lines_text (title ∷ more)) before
    ∙ sym (lines_both lines (title ∷ more))

-- one more text, as a line
pub texts_more : {X : Type 0} (text : X → List ℕ) (xs : List X) (k : ℕ) (x : X) (old mid new : List ℕ) → k < length xs → x ≡ get_or xs k x
    → mid ≡ old ++ lines_text (map text (take k xs)) → new ≡ mid ++ text x ++ codes "\n" → new ≡ old ++ lines_text (map text (take (k + 1) xs))
texts_more {X} text xs k x old mid new below is before adds =
    let line : List ℕ = text x ++ codes "\n" in
    let texts : map text (take (k + 1) xs) ≡ map text (take k xs) ++ text x ∷ [] =
    ap (map text) (take_next xs k x below is) ∙ map-append text (take k xs) (x ∷ []) in
    adds ∙ append_assoc mid (text x) (codes "\n")
    ∙ ap (λ (t : List ℕ). t ++ line) before
    ∙ append_assoc old (lines_text (map text (take k xs))) line
    ∙ ap (λ (t : List ℕ). old ++ (lines_text (map text (take k xs)) ++ t)) (sym (append-nil line))
    ∙ ap (λ (t : List ℕ). old ++ t) (sym (lines_both (map text (take k xs)) (text x ∷ [])))
    ∙ ap (λ (l : List (List ℕ)). old ++ lines_text l) (sym texts)

-- a line if something holds, and none if it does not
pub line_where : (b : Bool) (line old new : List ℕ) → b ≡ true → new ≡ old ++ line ++ codes "\n" → new ≡ old ++ lines_text (if b then line ∷ [] else [])
line_where b line old new is adds = rw is (one_line old line new adds)

pub no_line_where : (b : Bool) (line old : List ℕ) → b ≡ false → old ≡ old ++ lines_text (if b then line ∷ [] else [])
no_line_where b line old is = rw is (sym (append-nil old))
