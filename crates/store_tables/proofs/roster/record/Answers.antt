use Rattle.sqlite.specs.Held.{state}
use Rattle.store_tables.proofs.RosterLemmas.{recorded_anew}
use Rattle.store_tables.proofs.TurnLemmas.{clean_before}
use Rattle.store_tables.proofs.roster.record.Goals as goal

pub returns-clause-recorded : goal.returns-clause-recorded
returns-clause-recorded g c clean inside =
    let a = state g.S.Store c.args.tx.now.conn.now in
    let b = state g.S.Store c.clear_desk.new.tx.conn.now in
    let d = state g.S.Store c.put_roster.new.tx.conn.now in
    let one = c.in_ok-clear_desk.ensures.marked (clean_before b d _ c.put_roster.ensures.step.states.survives clean) inside in
    recorded_anew c.args.roster.now a b d one (c.in_ok-put_roster.ensures.marked clean one.inside.mode)
