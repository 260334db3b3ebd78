use Rattle.std.proofs.Common.{rules, true, length, ◌==◌, ◌≡◌}
use Rattle.sqlite.specs.Held.{state}
use Rattle.store_tables.proofs.TurnLemmas.{clean_before}
use Rattle.store_migration.proofs.EmptyLemmas.{cleared}
use Rattle.store_migration.proofs.clearing.clear.Goals as goal

pub returns-then-is_empty-clause-cleared : goal.returns-then-is_empty-clause-cleared
returns-then-is_empty-clause-cleared g c clean inside =
    let a = state g.S.Store c.args.tx.now.conn.now in
    let b = state g.S.Store c.delete.new.tx.conn.now in
    let d = state g.S.Store c.rows_left.new.tx.conn.now in
    let gone = c.in_ok-delete.ensures.deleted (clean_before b d _ c.rows_left.ensures.step.states.survives clean) inside in
    let none : (length c.in_ok-rows.rows.items == 0) ≡ true = search rules in
    cleared c.args.part a b d c.in_ok-rows.rows.items gone (c.in_ok-rows.ensures.left clean gone.inside.mode) none
