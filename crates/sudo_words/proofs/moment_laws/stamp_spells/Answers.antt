use Rattle.std.proofs.Common.{◌≡◌, ℕ, ◌+◌, ◌∙◌, List, length, get_or, ap, arith, length-append}
use Rattle.std.specs.Prelude.{codes}
use Rattle.std.proofs.lemmas.List.{get_or-append-add}
use Rattle.sudo_words.proofs.MomentLemmas.{stamp_spells}
use Rattle.sudo_words.proofs.MomentTexts.{stamp_from_length}
use Rattle.sudo_words.proofs.moment_laws.stamp_spells.Goals as goal

pub returns-clause-spells : goal.returns-clause-spells
returns-clause-spells c = stamp_spells

pub returns-clause-only : goal.returns-clause-only
returns-clause-only c = λ text front t s len e.
    let size : length front ≡ 14 = omega (arith, len, ap length e, length-append front (codes "Z")) in
    let last : get_or text (length front + 0) 0 ≡ 90 = ap (λ (l : List ℕ). get_or l (length front + 0) 0) e ∙ get_or-append-add front (codes "Z") 0 0 in
    let place : length front + 0 ≡ 14 = omega (arith, size) in
    stamp_from_length text t s len (rw place at last)
