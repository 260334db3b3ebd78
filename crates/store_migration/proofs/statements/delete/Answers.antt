use Rattle.sqlite.specs.Held.{state}
use Rattle.store_migration.proofs.EmptyLemmas.{deleted}
use Rattle.store_migration.proofs.statements.delete.Goals as goal

pub returns-clause-deleted : goal.returns-clause-deleted
returns-clause-deleted g c clean inside =
    deleted c.args.part (state g.S.Store c.args.tx.now.conn.now) (state g.S.Store c.execute.new.self.conn.now) c.execute.result
    (rw c.delete_of.ensures at (c.execute.ensures.runs clean inside))
