use Rattle.sqlite.specs.Held.{state}
use Rattle.store_tables.proofs.TurnLemmas.{clean_before, on_ok}
use Rattle.store_migration.proofs.MoveLemmas.{moved}
use Rattle.store_migration.proofs.moving.move_within.Goals as goal

pub returns-clause-moved : goal.returns-clause-moved
returns-clause-moved g c clean inside =
    let s0 = state g.S.Store c.args.tx.now.conn.now in
    let s1 = state g.S.Store c.prepare.new.tx.conn.now in
    let s2 = state g.S.Store c.put_roster.new.tx.conn.now in
    let s3 = state g.S.Store c.refill_rows.new.tx.conn.now in
    let clean2 = clean_before s2 s3 _ c.refill_rows.ensures.step.states.survives clean in
    let clean1 = clean_before s1 s2 _ c.put_roster.ensures.step.states.survives clean2 in
    let one = c.in_ok-prepare.ensures.prepared clean1 inside in
    let two = c.in_ok-put_roster.ensures.marked clean2 one.mode in
    on_ok c.refill_rows.result _ _ (moved c.args.roster.now c.args.messages.now s0 s1 s2 s3 c.utf8.roster one two)
    (c.refill_rows.ensures.refilled clean two.inside.mode)
