use Rattle.std.proofs.Common.{◌∙◌, ◌-◌, ◌<◌, ℕ, Bor, List, [], get_or, length, arith, subst, sym}
use Rattle.std.proofs.lemmas.List.Sorted.{all_adjacent_more}
use Rattle.std.proofs.lemmas.List.{get_or_default}
use Rattle.desk_store.proofs.CountLemmas.{Precedes, ascending, precedes}
use Rattle.desk_store.proofs.counting.ascends.Goals as goal

pub loop-i-init : goal.loop-i-init
loop-i-init c = λ k d less. absurd (omega (arith, less))

pub loop-i-preserved : goal.loop-i-preserved
loop-i-preserved c =
    let texts = c.args.texts.now in
    let i = c.loop-i.i in
    let nothing : Bor (List ℕ) = record { ref_ptr = (0, 0); now = [] } in
    let within : i < length texts = c.loop-i-test.true in
    let before : i - 1 < length texts = omega (arith, within) in
    let next : Precedes (get_or texts (i - 1) nothing) (get_or texts i nothing) = precedes _ (sym c.ge.ensures ∙ c.if-ge.false) in
    all_adjacent_more texts Precedes i (omega arith) c.loop-i.invariant (λ d.
    subst (λ (t : Bor (List ℕ)). Precedes (get_or texts (i - 1) d) t) (get_or_default texts i nothing d within)
    (subst (λ (t : Bor (List ℕ)). Precedes t (get_or texts i nothing)) (get_or_default texts (i - 1) nothing d before) next))

pub returns : goal.returns
returns c = λ _.
    ascending (record { ref_ptr = (0, 0); now = [] }) c.args.texts.now (λ k d less. c.loop-i.invariant k d (omega (arith, less, c.loop-i-test.false)))
