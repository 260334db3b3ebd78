-- Going through approvals one by one: what each adds to the people so far.
use Rattle.std.proofs.Common.{◌≡◌, ℕ, ◌+◌, true, false, List, [], ◌∷◌, ◌++◌, Option, refl, sym, ap, ◌∙◌, inl, inr, append_assoc}
use Rattle.std.specs.List.{flat_map}
use Rattle.std.specs.Str.{bytes_eq}
use Rattle.std.proofs.lemmas.Bool.{cases_Bool, cond-true, cond-false}
use Rattle.std.proofs.lemmas.Slice.Eq.{bytes_eq-Decides}
use Rattle.messages.specs.Fields.{RequestFields}
use Rattle.review.specs.declared.reason.Reason.{Reason}
use Rattle.review.specs.Barred.{barred_for}
use Rattle.review.specs.Columns.{lines_text}
use Rattle.review.specs.private.Whys.{both, joined, with_lines}
use Rattle.review.proofs.ReportLists.{lines_both}

-- the person comes first
first_is : (p : List ℕ) (x : Option Reason) (ws : List (List ℕ × Option Reason))
    → (y : Option Reason) × (rest : List (List ℕ × Option Reason)) × (joined p x ws ≡ (p, y) ∷ rest)
first_is p x [] = (x, [], refl)
first_is p x (w ∷ ws) =
    elim (cases_Bool (bytes_eq w.0 p)) as (λ _. (y : Option Reason) × (rest : List (List ℕ × Option Reason)) × (joined p x (w ∷ ws) ≡ (p, y) ∷ rest)) [
      | inl e ↦ (both x w.1, ws, cond-true (bytes_eq w.0 p) ((p, both x w.1) ∷ ws) ((p, x) ∷ w ∷ ws) e)
      | inr e ↦ (x, w ∷ ws, cond-false (bytes_eq w.0 p) ((p, both x w.1) ∷ ws) ((p, x) ∷ w ∷ ws) e)
    ]

joined_other : (p r : List ℕ) (x y : Option Reason) (ws : List (List ℕ × Option Reason))
    → bytes_eq r p ≡ false → joined p x (joined r y ws) ≡ (p, x) ∷ joined r y ws
joined_other p r x y ws e =
    let shape = first_is r y ws in
    ap (joined p x) shape.2
    ∙ cond-false (bytes_eq r p) ((p, both x shape.0) ∷ shape.1) ((p, x) ∷ (r, shape.0) ∷ shape.1) e
    ∙ ap (λ (rest : List (List ℕ × Option Reason)). (p, x) ∷ rest) (sym shape.2)

other_way : (p r : List ℕ) → bytes_eq p r ≡ false → bytes_eq r p ≡ false
other_way p r e = elim (cases_Bool (bytes_eq r p)) as (λ _. bytes_eq r p ≡ false) [
  | inl same ↦ let turned : true ≡ false = sym ((bytes_eq-Decides p r).1 (sym ((bytes_eq-Decides r p).0 same))) ∙ e in absurd cc
  | inr other ↦ other
]

-- ---- texts

pub another_person : (q : RequestFields) (old new p r : List ℕ) (x y : Option Reason) (ws : List (List ℕ × Option Reason)) → bytes_eq p r ≡ false
    → new ≡ old ++ lines_text (barred_for q p x) → with_lines q new (joined r y ws) ≡ with_lines q old (joined p x (joined r y ws))
another_person q old new p r x y ws e adds =
    let rest = flat_map (λ (w : List ℕ × Option Reason). barred_for q w.0 w.1) (joined r y ws) in
    ap (λ (t : List ℕ). t ++ lines_text rest) adds
    ∙ append_assoc old (lines_text (barred_for q p x)) (lines_text rest)
    ∙ ap (λ (t : List ℕ). old ++ t) (sym (lines_both (barred_for q p x) rest))
    ∙ ap (with_lines q old) (sym (joined_other p r x y ws (other_way p r e)))
