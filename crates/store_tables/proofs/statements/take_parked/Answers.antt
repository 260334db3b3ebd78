use Rattle.std.proofs.Common.{ℕ, pos, [], ◌∷◌, codes, Result, Ok, Err, OnOk}
use Rattle.sqlite.specs.declared.types.Value.TheVariants.{Int, Text}
use Rattle.sqlite.specs.declared.error.Error.{Error}
use Rattle.sqlite.specs.State.{State, ExecutesInside}
use Rattle.sqlite.specs.Held.{state}
use Rattle.messages.specs.declared.request_name.RequestName.{RequestName}
use Rattle.store_tables.specs.Rows.{OfName}
use Rattle.store_tables.specs.private.Changes.{Loses}
use Rattle.store_tables.specs.private.Stepping.{Wrote}
use Rattle.store_tables.proofs.Where.{parked_delete}
use Rattle.store_tables.proofs.StepLemmas.{parked_gone}
use Rattle.store_tables.proofs.statements.take_parked.Goals as goal

step : (name : RequestName) (old new : State) (r : Result ℕ Error) → ExecutesInside 0 parked_delete (Text name.by ∷ Int (pos name.no) ∷ []) old new r
    → OnOk r (Wrote (codes "parked") (Loses (OfName 1 name)) old new)
step name old new (Ok count) h = record { inside = h.1; alters = λ tidy. parked_gone name old new count tidy h.0 }
step name old new (Err e) h = tt

pub returns-clause-wrote : goal.returns-clause-wrote
returns-clause-wrote g c clean inside =
    step (record { by = c.args.asker.now; no = c.args.number }) (state g.S.Store c.args.tx.now.conn.now) (state g.S.Store c.execute.new.self.conn.now)
    c.execute.result (rw (c.params-to_sql.ensures, c.params-to_sql-2.ensures) at (c.execute.ensures.runs clean inside))
