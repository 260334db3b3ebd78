use Rattle.std.proofs.Common.{rules, ℕ, not, length, ◌==◌, ◌≡◌, Bool, List, [], ◌∷◌, IsTrue, codes, ap, sym, ◌∙◌}
use Rattle.std.proofs.lemmas.Result.{err_from_is_err_and}
use Rattle.sqlite.specs.declared.types.Value.TheVariants.{Text}
use Rattle.sqlite.specs.Order.{Row}
use Rattle.sqlite.specs.State.{State, Shown}
use Rattle.sqlite.specs.Held.{state}
use Rattle.store_tables.specs.Stored.{tree_of}
use Rattle.store_tables.specs.private.Stepping.{FindsText}
use Rattle.store_tables.proofs.CauseLemmas.{explained}
use Rattle.store_tables.proofs.Found.{text_select, text_selects, text_told}
use Rattle.store_tables.proofs.QueryLemmas.{asks_inside, query_steps, shown_same}
use Rattle.store_tables.proofs.TextSets.{contains_bodies}
use Rattle.store_tables.proofs.statements.has_text.Goals as goal

step : (text : List ℕ) (old new : State) (rows : List Row) (empty : Bool) → IsTrue old.in_transaction
    → Shown text_select (Text text ∷ []) old new rows → empty ≡ (length rows == 0) → FindsText text (not empty) old new
step text old new rows empty inside shown is = record {
  begun = asks_inside text_select _ old new rows inside shown;
  same = λ tidy. (shown_same text_select _ old new rows
      (text_selects old.now.schema tidy.desk.m (tree_of old.now.schema (codes "messages")) tidy.desk.messages).plain shown).0.now_is;
  tells = λ tidy.
      ap not is ∙ text_told text tidy.desk.m (tree_of old.now.schema (codes "messages")) old new rows tidy.desk.messages shown
      ∙ sym (contains_bodies text (old.now.trees (tree_of old.now.schema (codes "messages"))));
}

pub returns-clause-finds : goal.returns-clause-finds
returns-clause-finds g c clean inside =
    step c.args.text.now (state g.S.Store c.args.tx.now.conn.now) (state g.S.Store c.query_all.new.self.conn.now)
    c.in_ok-rows.rows.items c.is_empty.result inside (rw c.params-to_sql.ensures at (c.in_ok-rows.ensures.ok clean)) (search rules)

pub returns-clause-step : goal.returns-clause-step
returns-clause-step g c = record {
  same_reference = c.query_all.ensures.same_reference;
  states = query_steps _ _ (state g.S.Store c.args.tx.now.conn.now) (state g.S.Store c.query_all.new.self.conn.now)
      c.query_all.result c.query_all.ensures.survives c.query_all.ensures.ok c.query_all.ensures.err;
}

pub returns-in_err-rows-clause-step : goal.returns-in_err-rows-clause-step
returns-in_err-rows-clause-step g c = record {
  same_reference = c.query_all.ensures.same_reference;
  states = query_steps _ _ (state g.S.Store c.args.tx.now.conn.now) (state g.S.Store c.query_all.new.self.conn.now)
      c.query_all.result c.query_all.ensures.survives c.query_all.ensures.ok c.query_all.ensures.err;
}

pub returns-in_err-rows-clause-explained : goal.returns-in_err-rows-clause-explained
returns-in_err-rows-clause-explained g c clean inside =
    let p = err_from_is_err_and c.from_residual.result c.from_residual.ensures.1 in
    let old = state g.S.Store c.args.tx.now.conn.now in
    rw (p.1, p.2) (λ is_open tidy.
    explained c.args.text.now tidy.desk.m (tree_of old.now.schema (codes "messages")) old (state g.S.Store c.query_all.new.self.conn.now)
    c.in_err-rows.field-0.0 tidy.desk.messages is_open (rw c.params-to_sql.ensures at (c.in_err-rows.ensures.err clean)))
