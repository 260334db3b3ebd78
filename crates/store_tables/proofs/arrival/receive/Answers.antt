use Rattle.std.proofs.Common.{◌∙◌, sym}
use Rattle.std.proofs.lemmas.Result.{err_from_is_err_and}
use Rattle.sqlite.specs.Held.{state}
use Rattle.store_tables.proofs.CauseLemmas.{never_missing, never_refused}
use Rattle.store_tables.proofs.ReceiveLemmas.{again, anew, found_before}
use Rattle.store_tables.proofs.TurnLemmas.{clean_before}
use Rattle.store_tables.proofs.arrival.receive.Goals as goal

pub returns-then-branch-clause-received : goal.returns-then-branch-clause-received
returns-then-branch-clause-received g c clean inside =
    again c.args.body.now c.in_ok-has_text.field-0 (state g.S.Store c.args.tx.now.conn.now)
    (state g.S.Store c.has_text.new.tx.conn.now) c.if-branch.true (c.in_ok-has_text.ensures.finds clean inside)

pub returns-clause-received : goal.returns-clause-received
returns-clause-received g c clean inside =
    let a = state g.S.Store c.args.tx.now.conn.now in
    let z = state g.S.Store c.has_text.new.tx.conn.now in
    let b = state g.S.Store c.put_text.new.tx.conn.now in
    let d = state g.S.Store c.settle.new.tx.conn.now in
    let clean_b = clean_before b d _ c.settle.ensures.step.states.survives clean in
    let finds = found_before _ _ _ _ _ _ c.in_ok-has_text.ensures.finds c.put_text.ensures.step.states.survives c.settle.ensures.step.states clean inside in
    let wrote = c.in_ok-put_text.ensures.wrote clean_b finds.begun.mode in
    anew c.args.body.now c.in_ok-has_text.field-0 c.args.message.now a z b d
    c.requires.written c.requires.text c.if-branch.false finds wrote (c.in_ok-settle.ensures.settled clean wrote.inside.mode)

pub returns-then-branch-clause-told : goal.returns-then-branch-clause-told
returns-then-branch-clause-told g c clean inside = λ desk.
    sym ((c.in_ok-has_text.ensures.finds clean inside).tells desk.tidy) ∙ c.if-branch.true

pub returns-clause-told : goal.returns-clause-told
returns-clause-told g c clean inside =
    let finds = found_before _ _ _ _ _ _ c.in_ok-has_text.ensures.finds c.put_text.ensures.step.states.survives c.settle.ensures.step.states clean inside in
    never_missing _ _ _ _ c.if-branch.false finds

pub returns-in_err-has_text-clause-explained : goal.returns-in_err-has_text-clause-explained
returns-in_err-has_text-clause-explained g c clean inside =
    let p = err_from_is_err_and c.from_residual.result c.from_residual.ensures.1 in
    rw (p.1, p.2) (λ is_open desk there. c.in_err-has_text.ensures.explained clean inside is_open desk.tidy)

pub returns-in_err-put_text-clause-explained : goal.returns-in_err-put_text-clause-explained
returns-in_err-put_text-clause-explained g c clean inside =
    let a = state g.S.Store c.args.tx.now.conn.now in
    let z = state g.S.Store c.has_text.new.tx.conn.now in
    let b = state g.S.Store c.put_text.new.tx.conn.now in
    let finds = c.in_ok-has_text.ensures.finds (clean_before z b _ c.put_text.ensures.step.states.survives clean) inside in
    never_refused c.from_residual-in_err-put_text.result _ _ _ _ (λ is_open. never_missing c.args.body.now c.in_ok-has_text.field-0 a z c.if-branch.false finds)

pub returns-in_err-settle-clause-explained : goal.returns-in_err-settle-clause-explained
returns-in_err-settle-clause-explained g c clean inside =
    let finds = found_before _ _ _ _ _ _ c.in_ok-has_text.ensures.finds c.put_text.ensures.step.states.survives c.settle.ensures.step.states clean inside in
    never_refused c.from_residual-in_err-settle.result _ _ _ _ (λ is_open. never_missing _ _ _ _ c.if-branch.false finds)
