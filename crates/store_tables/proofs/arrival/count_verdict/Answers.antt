use Rattle.std.proofs.Common.{ap, ◌∙◌}
use Rattle.messages.specs.Wire.{kind_text}
use Rattle.sqlite.specs.Held.{state}
use Rattle.store_tables.proofs.TurnLemmas.{counts_verdict}
use Rattle.store_tables.proofs.arrival.count_verdict.Goals as goal

pub returns-clause-turned : goal.returns-clause-turned
returns-clause-turned g c clean inside =
    counts_verdict c.args.verdict.now _ _ _ _ _ (state g.S.Store c.args.tx.now.conn.now) (state g.S.Store c.put_verdict.new.tx.conn.now)
    (c.as_str.ensures.value ∙ c.of.ensures.value) (c.as_str-2.ensures.value ∙ c.by.ensures.value) (c.word.ensures ∙ ap kind_text c.kind.ensures.value)
    c.no.ensures.value (c.secs-at.ensures.value ∙ c.at.ensures.value) (c.in_ok-put_verdict.ensures.wrote clean inside)
