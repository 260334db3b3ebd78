use Rattle.std.proofs.Common.{ℕ, List, [], ◌∷◌, Result, Ok, Err, OnOk}
use Rattle.sqlite.specs.declared.types.Value.TheVariants.{Text}
use Rattle.sqlite.specs.declared.error.Error.{Error}
use Rattle.sqlite.specs.State.{State, ExecutesInside}
use Rattle.sqlite.specs.Held.{state}
use Rattle.store_tables.specs.Steps.{IsBare, Marked, Says}
use Rattle.store_tables.proofs.Inserts.{roster_text}
use Rattle.store_tables.proofs.RosterLemmas.{roster_written}
use Rattle.store_tables.proofs.statements.put_roster.Goals as goal

step : (roster : List ℕ) (old new : State) (r : Result ℕ Error)
    → ExecutesInside 0 roster_text (Text roster ∷ []) old new r → OnOk r (Marked IsBare (Says roster) old new)
step roster old new (Ok count) h = record { inside = h.1; marks = λ tidy none. roster_written old new roster count tidy none h.0 }
step roster old new (Err e) h = tt

pub returns-clause-marked : goal.returns-clause-marked
returns-clause-marked g c clean inside =
    step c.args.roster.now (state g.S.Store c.args.tx.now.conn.now) (state g.S.Store c.execute.new.self.conn.now) c.execute.result
    (rw c.params-to_sql.ensures at (c.execute.ensures.runs clean inside))
