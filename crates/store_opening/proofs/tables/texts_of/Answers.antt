use Rattle.sqlite.specs.Effect.{Database}
use Rattle.store_schema.specs.declared.part.DeskPart.TheVariants as part
use Rattle.store_schema.specs.Shapes.{FindsPart}
use Rattle.store_opening.specs.private.Selecting.{ShowsPart}
use Rattle.store_opening.proofs.ReadLemmas.{before, still, then_reads}
use Rattle.store_opening.proofs.tables.texts_of.Goals as goal

pub rows_of-requires-clause-found : goal.rows_of-requires-clause-found
rows_of-requires-clause-found g c up = (c.requires.found up).desk

pub rows_of-requires-2-clause-rests : goal.rows_of-requires-2-clause-rests
rows_of-requires-2-clause-rests g c = c.in_ok-desk.ensures.reads.rests

pub rows_of-requires-2-clause-found : goal.rows_of-requires-2-clause-found
rows_of-requires-2-clause-found g c =
    still (λ (d : Database). FindsPart d.schema part.Messages) c.in_ok-desk.ensures.reads (λ up. (c.requires.found up).messages)

pub returns-in_err-desk-clause-reads : goal.returns-in_err-desk-clause-reads
returns-in_err-desk-clause-reads g c = c.rows_of.ensures.reads

pub returns-in_err-messages-clause-reads : goal.returns-in_err-messages-clause-reads
returns-in_err-messages-clause-reads g c = then_reads c.rows_of.ensures.reads c.rows_of-2.ensures.reads

pub returns-clause-reads : goal.returns-clause-reads
returns-clause-reads g c = then_reads c.rows_of.ensures.reads c.rows_of-2.ensures.reads

pub returns-clause-up : goal.returns-clause-up
returns-clause-up g c clean = c.in_ok-messages.ensures.up clean

pub returns-clause-shows : goal.returns-clause-shows
returns-clause-shows g c up =
    let mid = c.rows_of-2.ensures.reads.was_up up in
    record {
      desk_is = c.in_ok-desk.ensures.shows mid;
      messages_are = before (λ (d : Database). ShowsPart part.Messages d c.in_ok-messages.messages.items) c.rows_of.ensures.reads mid
          (c.in_ok-messages.ensures.shows up);
    }
