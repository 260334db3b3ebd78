use Rattle.sqlite.specs.Held.{state}
use Rattle.store_tables.proofs.TurnLemmas.{clean_before}
use Rattle.store_schema.proofs.MadeLemmas.{grown}
use Rattle.store_schema.proofs.making.add_tables.Goals as goal

pub returns-clause-grown : goal.returns-clause-grown
returns-clause-grown g c clean inside =
    let s0 = state g.S.Store c.args.tx.now.conn.now in
    let s1 = state g.S.Store c.add_table.new.tx.conn.now in
    let s2 = state g.S.Store c.add_table-2.new.tx.conn.now in
    let s3 = state g.S.Store c.add_table-3.new.tx.conn.now in
    let s4 = state g.S.Store c.add_table-4.new.tx.conn.now in
    let s5 = state g.S.Store c.add_table-5.new.tx.conn.now in
    let clean4 = clean_before s4 s5 _ c.add_table-5.ensures.step.states.survives clean in
    let clean3 = clean_before s3 s4 _ c.add_table-4.ensures.step.states.survives clean4 in
    let clean2 = clean_before s2 s3 _ c.add_table-3.ensures.step.states.survives clean3 in
    let clean1 = clean_before s1 s2 _ c.add_table-2.ensures.step.states.survives clean2 in
    let a = c.in_ok-add_table.ensures.added clean1 inside in
    let b = c.in_ok-add_table-2.ensures.added clean2 a.inside.mode in
    let d = c.in_ok-add_table-3.ensures.added clean3 b.inside.mode in
    let e = c.in_ok-add_table-4.ensures.added clean4 d.inside.mode in
    grown s0 s1 s2 s3 s4 s5 a b d e (c.in_ok-add_table-5.ensures.added clean e.inside.mode)
