use Rattle.sqlite.specs.Held.{state}
use Rattle.store_tables.proofs.TurnLemmas.{clean_before}
use Rattle.store_migration.proofs.PrepareLemmas.{prepared}
use Rattle.store_migration.proofs.moving.prepare.Goals as goal

pub returns-clause-prepared : goal.returns-clause-prepared
returns-clause-prepared g c clean inside =
    let a = state g.S.Store c.args.tx.now.conn.now in
    let b = state g.S.Store c.clear_all.new.tx.conn.now in
    let d = state g.S.Store c.add_table.new.tx.conn.now in
    let empties = c.in_ok-clear_all.ensures.emptied (clean_before b d _ c.add_table.ensures.step.states.survives clean) inside in
    prepared a b d empties (c.in_ok-add_table.ensures.added clean empties.mode)
