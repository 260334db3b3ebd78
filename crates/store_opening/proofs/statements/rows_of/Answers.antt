use Rattle.sqlite.specs.Held.{state}
use Rattle.store_opening.proofs.ReadLemmas.{answered_up, reads_part, shows_part}
use Rattle.store_opening.proofs.statements.rows_of.Goals as goal

pub returns-clause-reads : goal.returns-clause-reads
returns-clause-reads g c =
    reads_part _ c.args.part c.select_of.ensures (state g.S.Store c.args.conn.now) (state g.S.Store c.query_all.new.self)
    c.requires.found c.query_all.result c.query_all.ensures.survives c.requires.rests c.query_all.ensures.ok c.query_all.ensures.err

pub returns-clause-up : goal.returns-clause-up
returns-clause-up g c clean =
    answered_up _ (state g.S.Store c.args.conn.now) (state g.S.Store c.query_all.new.self) clean c.query_all.result (c.query_all.ensures.ok clean)

pub returns-clause-shows : goal.returns-clause-shows
returns-clause-shows g c =
    shows_part _ c.args.part c.select_of.ensures (state g.S.Store c.args.conn.now) (state g.S.Store c.query_all.new.self)
    c.requires.found c.query_all.result c.query_all.ensures.survives c.requires.rests c.query_all.ensures.ok c.query_all.ensures.err
