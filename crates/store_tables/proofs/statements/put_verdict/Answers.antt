use Rattle.std.proofs.Common.{ℕ, pos, List, [], ◌∷◌, codes, Result, Ok, Err, OnOk}
use Rattle.sqlite.specs.declared.types.Value.TheVariants.{Int, Text}
use Rattle.sqlite.specs.declared.error.Error.{Error}
use Rattle.sqlite.specs.State.{State, ExecutesInside}
use Rattle.sqlite.specs.Held.{state}
use Rattle.store_tables.specs.private.Changes.{Gains}
use Rattle.store_tables.specs.private.Stepping.{Wrote, verdict_values}
use Rattle.store_tables.proofs.Inserts.{verdict_insert}
use Rattle.store_tables.proofs.StepLemmas.{verdict_wrote}
use Rattle.store_tables.proofs.statements.put_verdict.Goals as goal

step : (asker person kind : List ℕ) (n at : ℕ) (old new : State) (r : Result ℕ Error)
    → ExecutesInside 0 verdict_insert (Text asker ∷ Int (pos n) ∷ Text person ∷ Text kind ∷ Int (pos at) ∷ []) old new r
    → OnOk r (Wrote (codes "verdicts") (Gains (verdict_values asker n person kind at)) old new)
step asker person kind n at old new (Ok count) h = record { inside = h.1; alters = λ tidy. verdict_wrote asker person kind n at old new count tidy h.0 }
step asker person kind n at old new (Err e) h = tt

pub returns-clause-wrote : goal.returns-clause-wrote
returns-clause-wrote g c clean inside =
    step c.args.asker.now c.args.person.now c.args.kind.now c.args.number c.args.at
    (state g.S.Store c.args.tx.now.conn.now) (state g.S.Store c.execute.new.self.conn.now) c.execute.result
    (rw (c.params-to_sql.ensures, c.params-to_sql-2.ensures, c.params-to_sql-3.ensures, c.params-to_sql-4.ensures, c.params-to_sql-5.ensures)
    at (c.execute.ensures.runs clean inside))
