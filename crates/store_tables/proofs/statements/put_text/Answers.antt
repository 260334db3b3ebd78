use Rattle.std.proofs.Common.{ℕ, List, [], ◌∷◌, Result, Ok, Err, OnOk}
use Rattle.sqlite.specs.declared.types.Value.TheVariants.{Text}
use Rattle.sqlite.specs.declared.error.Error.{Error}
use Rattle.sqlite.specs.State.{State, ExecutesInside}
use Rattle.sqlite.specs.Held.{state}
use Rattle.store_tables.specs.private.Stepping.{WroteText}
use Rattle.store_tables.proofs.Inserts.{text_insert}
use Rattle.store_tables.proofs.StepLemmas.{text_wrote}
use Rattle.store_tables.proofs.statements.put_text.Goals as goal

step : (text : List ℕ) (old new : State) (r : Result ℕ Error) → ExecutesInside 0 text_insert (Text text ∷ []) old new r → OnOk r (WroteText text old new)
step text old new (Ok count) h = record { inside = h.1; adds = λ tidy. text_wrote text old new count tidy h.0 }
step text old new (Err e) h = tt

pub returns-clause-wrote : goal.returns-clause-wrote
returns-clause-wrote g c clean inside =
    step c.args.text.now (state g.S.Store c.args.tx.now.conn.now) (state g.S.Store c.execute.new.self.conn.now) c.execute.result
    (rw c.params-to_sql.ensures at (c.execute.ensures.runs clean inside))
