use Rattle.sqlite.specs.Held.{state}
use Rattle.store_tables.proofs.QueryLemmas.{query_steps}
use Rattle.store_migration.proofs.EmptyLemmas.{rows_shown}
use Rattle.store_migration.proofs.statements.rows_left.Goals as goal

pub returns-clause-left : goal.returns-clause-left
returns-clause-left g c clean inside =
    rows_shown c.args.part (state g.S.Store c.args.tx.now.conn.now)
    (state g.S.Store c.query_all.new.self.conn.now) c.query_all.result inside (rw c.select_of.ensures at (c.query_all.ensures.ok clean))

pub returns-clause-step : goal.returns-clause-step
returns-clause-step g c = record {
  same_reference = c.query_all.ensures.same_reference;
  states = query_steps _ _ (state g.S.Store c.args.tx.now.conn.now) (state g.S.Store c.query_all.new.self.conn.now)
      c.query_all.result c.query_all.ensures.survives c.query_all.ensures.ok c.query_all.ensures.err;
}
