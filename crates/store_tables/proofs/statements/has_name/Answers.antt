use Rattle.std.proofs.Common.{rules, pos, not, length, ◌==◌, ◌≡◌, Bool, List, [], ◌∷◌, IsTrue, sym, subst}
use Rattle.sqlite.specs.declared.types.Value.TheVariants.{Int, Text}
use Rattle.sqlite.specs.Order.{Row}
use Rattle.sqlite.specs.State.{State, Shown}
use Rattle.sqlite.specs.Held.{state}
use Rattle.messages.specs.declared.request_name.RequestName.{RequestName}
use Rattle.store_tables.specs.Rows.{IsRow}
use Rattle.store_tables.specs.private.Changes.{Tells}
use Rattle.store_tables.specs.Kept.{table_in}
use Rattle.store_tables.specs.private.Stepping.{Finds}
use Rattle.store_tables.proofs.QueryLemmas.{asks_inside, query_steps, names_plain, shown_same}
use Rattle.store_tables.proofs.StepLemmas.{name_told}
use Rattle.store_tables.proofs.Where.{names_select}
use Rattle.store_tables.proofs.statements.has_name.Goals as goal

step : (name : RequestName) (old new : State) (rows : List Row) (empty : Bool) → IsTrue old.in_transaction
    → Shown names_select (Text name.by ∷ Int (pos name.no) ∷ []) old new rows → empty ≡ (length rows == 0) → Finds name (not empty) old new
step name old new rows empty inside shown is = record {
  begun = asks_inside names_select _ old new rows inside shown;
  same = λ tidy. (shown_same names_select _ old new rows (names_plain old tidy) shown).0.now_is;
  tells = λ tidy.
      subst (λ b. Tells (IsRow (table_in old.now (Rattle.std.proofs.Common.codes "names"))) name (not b)) (sym is) (name_told name old new rows tidy shown);
}

pub returns-clause-finds : goal.returns-clause-finds
returns-clause-finds g c clean inside =
    step (record { by = c.args.asker.now; no = c.args.number }) (state g.S.Store c.args.tx.now.conn.now) (state g.S.Store c.query_all.new.self.conn.now)
    c.in_ok-rows.rows.items c.is_empty.result inside (rw (c.params-to_sql.ensures, c.params-to_sql-2.ensures) at (c.in_ok-rows.ensures.ok clean)) (search rules)

pub returns-clause-step : goal.returns-clause-step
returns-clause-step g c = record {
  same_reference = c.query_all.ensures.same_reference;
  states = query_steps _ _ (state g.S.Store c.args.tx.now.conn.now) (state g.S.Store c.query_all.new.self.conn.now)
      c.query_all.result c.query_all.ensures.survives c.query_all.ensures.ok c.query_all.ensures.err;
}

pub returns-in_err-rows-clause-step : goal.returns-in_err-rows-clause-step
returns-in_err-rows-clause-step g c = record {
  same_reference = c.query_all.ensures.same_reference;
  states = query_steps _ _ (state g.S.Store c.args.tx.now.conn.now) (state g.S.Store c.query_all.new.self.conn.now)
      c.query_all.result c.query_all.ensures.survives c.query_all.ensures.ok c.query_all.ensures.err;
}
