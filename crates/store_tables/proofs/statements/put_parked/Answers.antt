use Rattle.std.proofs.Common.{ℕ, pos, List, [], ◌∷◌, codes, Result, Ok, Err, OnOk}
use Rattle.sqlite.specs.declared.types.Value.TheVariants.{Int, Text}
use Rattle.sqlite.specs.declared.error.Error.{Error}
use Rattle.sqlite.specs.State.{State, ExecutesInside}
use Rattle.sqlite.specs.Held.{state}
use Rattle.store_tables.specs.private.Changes.{Gains}
use Rattle.store_tables.specs.private.Stepping.{Wrote, parked_values}
use Rattle.store_tables.proofs.Inserts.{parked_insert}
use Rattle.store_tables.proofs.StepLemmas.{parked_wrote}
use Rattle.store_tables.proofs.statements.put_parked.Goals as goal

step : (body asker : List ℕ) (n : ℕ) (old new : State) (r : Result ℕ Error)
    → ExecutesInside 0 parked_insert (Text body ∷ Text asker ∷ Int (pos n) ∷ []) old new r
    → OnOk r (Wrote (codes "parked") (Gains (parked_values body asker n)) old new)
step body asker n old new (Ok count) h = record { inside = h.1; alters = λ tidy. parked_wrote body asker n old new count tidy h.0 }
step body asker n old new (Err e) h = tt

pub returns-clause-wrote : goal.returns-clause-wrote
returns-clause-wrote g c clean inside =
    step c.args.body.now c.args.asker.now c.args.number (state g.S.Store c.args.tx.now.conn.now) (state g.S.Store c.execute.new.self.conn.now) c.execute.result
    (rw (c.params-to_sql.ensures, c.params-to_sql-2.ensures, c.params-to_sql-3.ensures) at (c.execute.ensures.runs clean inside))
