use Rattle.std.proofs.Common.{subst, ◌∙◌}
use Rattle.sqlite.specs.Held.{state}
use Rattle.store_tables.specs.Rows.{OfName}
use Rattle.store_tables.specs.private.Changes.{Loses}
use Rattle.store_tables.specs.private.Stepping.{Finds, Wrote}
use Rattle.store_tables.proofs.RequestLemmas.{renamed}
use Rattle.store_tables.proofs.TurnLemmas.{clean_before, name_is}
use Rattle.store_tables.proofs.arrival.rename.Goals as goal

pub returns-clause-turned : goal.returns-clause-turned
returns-clause-turned g c clean inside =
    let q = c.args.request.now in
    let a = state g.S.Store c.args.tx.now.conn.now in
    let b = state g.S.Store c.has_name.new.tx.conn.now in
    let mid = state g.S.Store c.take_name.new.tx.conn.now in
    let d = state g.S.Store c.put_name.new.tx.conn.now in
    let clean_c = clean_before mid d _ c.put_name.ensures.step.states.survives clean in
    let clean_b = clean_before b mid _ c.take_name.ensures.step.states.survives clean_c in
    let finds = subst (λ n. Finds n c.in_ok-disputed.disputed a b)
    (name_is q _ _ (c.as_str.ensures.value ∙ c.by.ensures.value) c.no.ensures.value) (c.in_ok-disputed.ensures.finds clean_b inside) in
    let lost = subst (λ n. Wrote (Rattle.std.proofs.Common.codes "names") (Loses (OfName 0 n)) b mid)
    (name_is q _ _ (c.as_str-2.ensures.value ∙ c.by-2.ensures.value) c.no-2.ensures.value) (c.in_ok-take_name.ensures.wrote clean_c finds.begun.mode) in
    renamed q _ _ _ c.in_ok-disputed.disputed a b mid d c.requires
    (c.as_str-3.ensures.value ∙ c.by-3.ensures.value) c.no-3.ensures.value finds lost (c.in_ok-put_name.ensures.wrote clean lost.inside.mode)
