use Rattle.std.proofs.Common.{codes, subst, ◌∙◌}
use Rattle.sqlite.specs.Held.{state}
use Rattle.messages.specs.Names.{name_of}
use Rattle.store_tables.specs.Rows.{OfName}
use Rattle.store_tables.specs.private.Changes.{Loses}
use Rattle.store_tables.specs.private.Stepping.{FindsParked, Wrote}
use Rattle.store_tables.specs.private.Turning.{JoinsAll, Rowwise, Stays, Turned}
use Rattle.store_tables.proofs.RequestLemmas.{joins_parked}
use Rattle.store_tables.proofs.TurnLemmas.{clean_before, name_is}
use Rattle.store_tables.proofs.arrival.join_parked.Goals as goal

pub returns-clause-joined : goal.returns-clause-joined
returns-clause-joined g c clean inside =
    let q = c.args.request.now in
    let a = state g.S.Store c.args.tx.now.conn.now in
    let b = state g.S.Store c.parked_of.new.tx.conn.now in
    let mid = state g.S.Store c.join.new.tx.conn.now in
    let d = state g.S.Store c.take_parked.new.tx.conn.now in
    let clean_c = clean_before mid d _ c.take_parked.ensures.step.states.survives clean in
    let clean_b = clean_before b mid _ c.join.ensures.step.states.survives clean_c in
    let finds = subst (λ n. FindsParked n c.in_ok-rows.rows.items a b)
    (name_is q _ _ (c.as_str.ensures.value ∙ c.by.ensures.value) c.no.ensures.value) (c.in_ok-rows.ensures.finds clean_b inside) in
    let joined =
    subst (λ rs. Turned Stays (Rowwise (JoinsAll rs)) Stays b mid) c.as_slice.ensures.value (c.in_ok-join.ensures.turned clean_c finds.begun.mode) in
    let lost = subst (λ n. Wrote (codes "parked") (Loses (OfName 1 n)) mid d)
    (name_is q _ _ (c.as_str-2.ensures.value ∙ c.by-2.ensures.value) c.no-2.ensures.value) (c.in_ok-take_parked.ensures.wrote clean joined.mode) in
    joins_parked (name_of q) c.in_ok-rows.rows.items a b mid d finds joined lost
