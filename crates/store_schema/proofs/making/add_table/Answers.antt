use Rattle.std.proofs.Common.{ℕ, [], Result, Ok, Err, OnOk}
use Rattle.sqlite.specs.declared.error.Error.{Error}
use Rattle.sqlite.specs.State.{State, ExecutesInside}
use Rattle.sqlite.specs.Held.{state}
use Rattle.store_schema.specs.declared.part.DeskPart.{DeskPart}
use Rattle.store_schema.specs.Founding.{AddsPart}
use Rattle.store_schema.specs.private.Making.{text_of}
use Rattle.store_schema.proofs.CreateLemmas.{adds_part}
use Rattle.store_schema.proofs.making.add_table.Goals as goal

step : (part : DeskPart) (old new : State) (r : Result ℕ Error) → ExecutesInside 0 (text_of part) [] old new r → OnOk r (AddsPart part old new)
step part old new (Ok count) h = record { inside = h.1; adds = λ free none. adds_part part old new count free none h.0 }
step part old new (Err e) h = tt

pub returns-clause-added : goal.returns-clause-added
returns-clause-added g c clean inside =
    step c.args.part (state g.S.Store c.args.tx.now.conn.now) (state g.S.Store c.execute.new.self.conn.now) c.execute.result
    (rw c.text_of.ensures at (c.execute.ensures.runs clean inside))
