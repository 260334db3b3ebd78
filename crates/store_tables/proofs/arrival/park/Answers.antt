use Rattle.std.proofs.Common.{◌∙◌}
use Rattle.sqlite.specs.Held.{state}
use Rattle.store_tables.proofs.TurnLemmas.{parks_verdict}
use Rattle.store_tables.proofs.arrival.park.Goals as goal

pub returns-clause-turned : goal.returns-clause-turned
returns-clause-turned g c clean inside =
    parks_verdict c.args.verdict.now _ _ _ (state g.S.Store c.args.tx.now.conn.now) (state g.S.Store c.put_parked.new.tx.conn.now) c.requires
    (c.as_str.ensures.value ∙ c.of.ensures.value) c.no.ensures.value (c.in_ok-put_parked.ensures.wrote clean inside)
