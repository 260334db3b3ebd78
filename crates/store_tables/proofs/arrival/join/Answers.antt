use Rattle.std.proofs.Common.{◌∙◌, ◌++◌, ◌∷◌, [], ap, sym, take}
use Rattle.std.proofs.lemmas.List.{take_more}
use Rattle.sqlite.specs.Held.{state}
use Rattle.store_tables.proofs.RequestLemmas.{joining_more}
use Rattle.store_tables.proofs.arrival.join.Goals as goal

pub loop-row-preserved : goal.loop-row-preserved
loop-row-preserved g c =
    let a = state g.S.Store c.args.tx.now.conn.now in
    let b = state g.S.Store c.loop-row.tx.conn.now in
    let d = state g.S.Store c.join_one.new.tx.conn.now in
    let rows = c.args.rows.now in
    let row = c.row-item.result in
    let more = take_more rows c.loop-row.row-index row c.loop-row-test.true ∙ ap (λ x. take c.loop-row.row-index rows ++ x ∷ []) (sym c.row-item.is) in (
      c.join_one.ensures.step.same_reference ∙ c.loop-row.invariant.0,
      joining_more _ _ row a b d more c.loop-row.invariant.1 c.join_one.ensures.step.states (λ clean inside. c.in_ok-join_one.ensures.turned clean inside),
    )
