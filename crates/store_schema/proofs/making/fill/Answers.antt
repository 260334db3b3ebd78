use Rattle.sqlite.specs.Held.{state}
use Rattle.store_tables.proofs.TurnLemmas.{clean_before}
use Rattle.store_schema.proofs.MadeLemmas.{filled}
use Rattle.store_schema.proofs.making.fill.Goals as goal

pub returns-clause-filled : goal.returns-clause-filled
returns-clause-filled g c clean inside =
    let a = state g.S.Store c.args.tx.now.conn.now in
    let b = state g.S.Store c.add_tables.new.tx.conn.now in
    let d = state g.S.Store c.put_roster.new.tx.conn.now in
    let grown = c.in_ok-add_tables.ensures.grown (clean_before b d _ c.put_roster.ensures.step.states.survives clean) inside in
    filled c.args.roster.now c.utf8.roster a b d grown (c.in_ok-put_roster.ensures.marked clean grown.mode)
