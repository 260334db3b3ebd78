use Rattle.std.proofs.Common.{◌∙◌, subst}
use Rattle.sqlite.specs.Held.{state}
use Rattle.store_tables.specs.private.Stepping.{Finds}
use Rattle.store_tables.proofs.TurnLemmas.{meant_is, clean_before, on_ok, verdict_counted, verdict_parked}
use Rattle.store_tables.proofs.arrival.settle_verdict.Goals as goal

pub returns-then-branch-clause-settled : goal.returns-then-branch-clause-settled
returns-then-branch-clause-settled g c clean inside =
    let v = c.args.verdict.now in
    let old = state g.S.Store c.args.tx.now.conn.now in
    let mid = state g.S.Store c.has_name.new.tx.conn.now in
    let new = state g.S.Store c.count_verdict.new.tx.conn.now in
    let honest = clean_before mid new _ c.count_verdict.ensures.step.states.survives clean in
    let finds = subst (λ n. Finds n c.in_ok-has_name.field-0 old mid)
    (meant_is v _ _ (c.as_str.ensures.value ∙ c.of.ensures.value) c.no.ensures.value) (c.in_ok-has_name.ensures.finds honest inside) in
    on_ok c.count_verdict.result _ _ (verdict_counted v c.of.ensures.verdict c.in_ok-has_name.field-0 old mid new finds c.if-branch.true)
    (c.count_verdict.ensures.turned clean finds.begun.mode)

pub returns-else-branch-clause-settled : goal.returns-else-branch-clause-settled
returns-else-branch-clause-settled g c clean inside =
    let v = c.args.verdict.now in
    let old = state g.S.Store c.args.tx.now.conn.now in
    let mid = state g.S.Store c.has_name.new.tx.conn.now in
    let new = state g.S.Store c.park.new.tx.conn.now in
    let honest = clean_before mid new _ c.park.ensures.step.states.survives clean in
    let finds = subst (λ n. Finds n c.in_ok-has_name.field-0 old mid)
    (meant_is v _ _ (c.as_str.ensures.value ∙ c.of.ensures.value) c.no.ensures.value) (c.in_ok-has_name.ensures.finds honest inside) in
    on_ok c.park.result _ _ (verdict_parked v c.of.ensures.verdict c.in_ok-has_name.field-0 old mid new finds c.if-branch.false)
    (c.park.ensures.turned clean finds.begun.mode)
