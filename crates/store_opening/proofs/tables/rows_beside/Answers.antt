use Rattle.sqlite.specs.Effect.{Database}
use Rattle.store_schema.specs.declared.part.DeskPart.TheVariants as part
use Rattle.store_schema.specs.Shapes.{FindsPart}
use Rattle.store_opening.proofs.ReadLemmas.{still, then_reads}
use Rattle.store_opening.proofs.ThreeReads.{three_read, three_show}
use Rattle.store_opening.proofs.tables.rows_beside.Goals as goal

pub rows_of-requires-clause-found : goal.rows_of-requires-clause-found
rows_of-requires-clause-found g c up = (c.requires.common up).names

pub rows_of-requires-2-clause-rests : goal.rows_of-requires-2-clause-rests
rows_of-requires-2-clause-rests g c = c.in_ok-names.ensures.reads.rests

pub rows_of-requires-2-clause-found : goal.rows_of-requires-2-clause-found
rows_of-requires-2-clause-found g c = still (λ (d : Database). FindsPart d.schema part.Verdicts) c.in_ok-names.ensures.reads c.requires.verdicts

pub rows_of-requires-3-clause-rests : goal.rows_of-requires-3-clause-rests
rows_of-requires-3-clause-rests g c = c.in_ok-verdicts.ensures.reads.rests

pub rows_of-requires-3-clause-found : goal.rows_of-requires-3-clause-found
rows_of-requires-3-clause-found g c =
    let both = then_reads c.rows_of.ensures.reads c.rows_of-2.ensures.reads in
    still (λ (d : Database). FindsPart d.schema part.Parked) both (λ up. (c.requires.common up).parked)

pub returns-in_err-names-clause-reads : goal.returns-in_err-names-clause-reads
returns-in_err-names-clause-reads g c = c.rows_of.ensures.reads

pub returns-in_err-verdicts-clause-reads : goal.returns-in_err-verdicts-clause-reads
returns-in_err-verdicts-clause-reads g c = then_reads c.rows_of.ensures.reads c.rows_of-2.ensures.reads

pub returns-in_err-parked-clause-reads : goal.returns-in_err-parked-clause-reads
returns-in_err-parked-clause-reads g c =
    three_read c.rows_of.ensures.reads c.rows_of-2.ensures.reads c.rows_of-3.ensures.reads

pub returns-clause-reads : goal.returns-clause-reads
returns-clause-reads g c =
    three_read c.rows_of.ensures.reads c.rows_of-2.ensures.reads c.rows_of-3.ensures.reads

pub returns-clause-up : goal.returns-clause-up
returns-clause-up g c =
    c.in_ok-parked.ensures.up

pub returns-clause-shows : goal.returns-clause-shows
returns-clause-shows g c up =
    let two = c.rows_of-3.ensures.reads.was_up up in
    three_show c.rows_of.ensures.reads c.rows_of-2.ensures.reads c.rows_of-3.ensures.reads
    (c.in_ok-names.ensures.shows (c.rows_of-2.ensures.reads.was_up two)) (c.in_ok-verdicts.ensures.shows two) (c.in_ok-parked.ensures.shows up) up
