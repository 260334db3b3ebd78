use Rattle.std.proofs.Common.{pos, [], ◌∷◌, Result, Ok, Err, IfOk, IsTrue, Vec}
use Rattle.std.specs.declared.alloc.Global.{Global}
use Rattle.sqlite.specs.declared.types.Value.TheVariants.{Int, Text}
use Rattle.sqlite.specs.declared.error.Error.{Error}
use Rattle.sqlite.specs.Order.{Row}
use Rattle.sqlite.specs.State.{State, Shown}
use Rattle.sqlite.specs.Held.{state}
use Rattle.messages.specs.declared.request_name.RequestName.{RequestName}
use Rattle.store_tables.specs.private.Stepping.{FindsParked}
use Rattle.store_tables.proofs.QueryLemmas.{asks_inside, query_steps, parked_plain, shown_same}
use Rattle.store_tables.proofs.StepLemmas.{parked_shown}
use Rattle.store_tables.proofs.Where.{parked_select}
use Rattle.store_tables.proofs.statements.parked_of.Goals as goal

step : (name : RequestName) (old new : State) (r : Result (Vec Row Global) Error) → IsTrue old.in_transaction
    → IfOk r (λ rows. Shown parked_select (Text name.by ∷ Int (pos name.no) ∷ []) old new rows.items) → IfOk r (λ rows. FindsParked name rows.items old new)
step name old new (Ok rows) inside shown = record {
  begun = asks_inside parked_select _ old new rows.items inside shown;
  same = λ tidy. (shown_same parked_select _ old new rows.items (parked_plain old tidy) shown).0.now_is;
  shows = λ tidy. parked_shown name old new rows.items tidy shown;
}
step name old new (Err e) inside shown = tt

pub returns-clause-finds : goal.returns-clause-finds
returns-clause-finds g c clean inside =
    step (record { by = c.args.asker.now; no = c.args.number }) (state g.S.Store c.args.tx.now.conn.now) (state g.S.Store c.query_all.new.self.conn.now)
    c.query_all.result inside (rw (c.params-to_sql.ensures, c.params-to_sql-2.ensures) at (c.query_all.ensures.ok clean))

pub returns-clause-step : goal.returns-clause-step
returns-clause-step g c = record {
  same_reference = c.query_all.ensures.same_reference;
  states = query_steps _ _ (state g.S.Store c.args.tx.now.conn.now) (state g.S.Store c.query_all.new.self.conn.now)
      c.query_all.result c.query_all.ensures.survives c.query_all.ensures.ok c.query_all.ensures.err;
}
