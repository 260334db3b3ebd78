use Rattle.std.proofs.Common.{ℕ, [], Result, Ok, Err, OnOk}
use Rattle.sqlite.specs.declared.error.Error.{Error}
use Rattle.sqlite.specs.State.{State, ExecutesInside}
use Rattle.sqlite.specs.Held.{state}
use Rattle.store_tables.specs.Kept.{IsKeyed}
use Rattle.store_tables.specs.Steps.{IsBare, Marked}
use Rattle.store_tables.proofs.RosterLemmas.{desk_emptied}
use Rattle.store_tables.proofs.Where.{desk_clear}
use Rattle.store_tables.proofs.statements.clear_desk.Goals as goal

step : (old new : State) (r : Result ℕ Error) → ExecutesInside 0 desk_clear [] old new r → OnOk r (Marked IsKeyed IsBare old new)
step old new (Ok count) h = record { inside = h.1; marks = λ tidy keyed. desk_emptied old new count tidy keyed h.0 }
step old new (Err e) h = tt

pub returns-clause-marked : goal.returns-clause-marked
returns-clause-marked g c clean inside =
    step (state g.S.Store c.args.tx.now.conn.now) (state g.S.Store c.execute.new.self.conn.now) c.execute.result (c.execute.ensures.runs clean inside)
