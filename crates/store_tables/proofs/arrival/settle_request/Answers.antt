use Rattle.sqlite.specs.Held.{state}
use Rattle.store_tables.proofs.RequestLemmas.{request_settled}
use Rattle.store_tables.proofs.TurnLemmas.{clean_before, on_ok}
use Rattle.store_tables.proofs.arrival.settle_request.Goals as goal

pub returns-clause-settled : goal.returns-clause-settled
returns-clause-settled g c clean inside =
    let a = state g.S.Store c.args.tx.now.conn.now in
    let b = state g.S.Store c.rename.new.tx.conn.now in
    let d = state g.S.Store c.join_parked.new.tx.conn.now in
    let clean_b = clean_before b d _ c.join_parked.ensures.step.states.survives clean in
    let turned = c.in_ok-rename.ensures.turned clean_b inside in
    on_ok c.join_parked.result _ _ (request_settled c.args.request.now c.rename.ensures.request a b d turned) (c.join_parked.ensures.joined clean turned.mode)
