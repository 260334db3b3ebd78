use Rattle.std.proofs.Common.{ℕ, pos, Bool, if◌then◌else◌, List, [], ◌∷◌, codes, Result, Ok, Err, OnOk}
use Rattle.sqlite.specs.declared.types.Value.TheVariants.{Int, Text}
use Rattle.sqlite.specs.declared.error.Error.{Error}
use Rattle.sqlite.specs.State.{State, ExecutesInside}
use Rattle.sqlite.specs.Held.{state}
use Rattle.store_tables.specs.private.Changes.{Gains}
use Rattle.store_tables.specs.private.Stepping.{Wrote, name_values}
use Rattle.store_tables.proofs.Inserts.{name_insert}
use Rattle.store_tables.proofs.StepLemmas.{name_wrote}
use Rattle.store_tables.proofs.statements.put_name.Goals as goal

step : (asker body : List ℕ) (n : ℕ) (d : Bool) (old new : State) (r : Result ℕ Error)
    → ExecutesInside 0 name_insert (Text asker ∷ Int (pos n) ∷ Text body ∷ Int (if d then pos 1 else pos 0) ∷ []) old new r
    → OnOk r (Wrote (codes "names") (Gains (name_values asker n body d)) old new)
step asker body n d old new (Ok count) h = record { inside = h.1; alters = λ tidy. name_wrote asker body n d old new count tidy h.0 }
step asker body n d old new (Err e) h = tt

pub returns-clause-wrote : goal.returns-clause-wrote
returns-clause-wrote g c clean inside =
    step c.args.asker.now c.args.body.now c.args.number c.args.disputed
    (state g.S.Store c.args.tx.now.conn.now) (state g.S.Store c.execute.new.self.conn.now) c.execute.result
    (rw (c.params-to_sql.ensures, c.params-to_sql-2.ensures, c.params-to_sql-3.ensures, c.params-to_sql-4.ensures) at (c.execute.ensures.runs clean inside))
