use Rattle.sqlite.specs.Held.{state}
use Rattle.store_tables.specs.Kept.{HoldsText}
use Rattle.store_tables.specs.Sets.{Lists}
use Rattle.store_opening.specs.private.Reading.{AreBodies}
use Rattle.store_opening.proofs.ReadLemmas.{ok_as, up_ok}
use Rattle.store_opening.proofs.TextsShown.{listed, none_foreign}
use Rattle.store_opening.proofs.listed.messages_of.Goals as goal

pub returns-clause-reads : goal.returns-clause-reads
returns-clause-reads g c = c.rows_of.ensures.reads

pub returns-clause-up : goal.returns-clause-up
returns-clause-up g c clean = up_ok c.messages_shown.result (c.in_ok-rows.ensures.up clean)

pub returns-clause-listed : goal.returns-clause-listed
returns-clause-listed g c up =
    let db = (state g.S.Store c.args.conn.now).now in
    let rows = c.in_ok-rows.rows.items in
    ok_as (λ ms. AreBodies rows ms.items) (λ ms. Lists (HoldsText db) ms.items) (λ ms are. listed db rows (c.in_ok-rows.ensures.shows up) ms.items are)
    c.messages_shown.result c.messages_shown.ensures.all

pub returns-in_err-rows-clause-reads : goal.returns-in_err-rows-clause-reads
returns-in_err-rows-clause-reads g c = c.rows_of.ensures.reads

pub returns-clause-whole : goal.returns-clause-whole
returns-clause-whole g c up texts stray =
    none_foreign (state g.S.Store c.args.conn.now).now c.in_ok-rows.rows.items
    (c.in_ok-rows.ensures.shows up) texts (c.messages_shown.ensures.stray stray)
