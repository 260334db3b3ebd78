use Rattle.sqlite.specs.Held.{state}
use Rattle.store_tables.proofs.TurnLemmas.{clean_before, on_ok}
use Rattle.store_migration.proofs.EmptyLemmas.{emptied}
use Rattle.store_migration.proofs.clearing.clear_all.Goals as goal

pub returns-clause-emptied : goal.returns-clause-emptied
returns-clause-emptied g c clean inside =
    let s0 = state g.S.Store c.args.tx.now.conn.now in
    let s1 = state g.S.Store c.clear.new.tx.conn.now in
    let s2 = state g.S.Store c.clear-2.new.tx.conn.now in
    let s3 = state g.S.Store c.clear-3.new.tx.conn.now in
    let s4 = state g.S.Store c.clear-4.new.tx.conn.now in
    let clean3 = clean_before s3 s4 _ c.clear-4.ensures.step.states.survives clean in
    let clean2 = clean_before s2 s3 _ c.clear-3.ensures.step.states.survives clean3 in
    let clean1 = clean_before s1 s2 _ c.clear-2.ensures.step.states.survives clean2 in
    let one = c.in_ok-clear.ensures.cleared clean1 inside in
    let two = c.in_ok-clear-2.ensures.cleared clean2 one.mode in
    let three = c.in_ok-clear-3.ensures.cleared clean3 two.mode in
    on_ok c.clear-4.result _ _ (emptied s0 s1 s2 s3 s4 one two three) (c.clear-4.ensures.cleared clean three.mode)
