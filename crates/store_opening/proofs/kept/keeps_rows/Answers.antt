use Rattle.std.proofs.Common.{◌&&◌, ◌∙◌, List, ap}
use Rattle.sqlite.specs.Effect.{Database}
use Rattle.store_schema.specs.declared.part.DeskPart.TheVariants as part
use Rattle.store_schema.specs.Shapes.{FindsPart}
use Rattle.messages.specs.declared.message.Message.{Message}
use Rattle.store_opening.specs.private.Compare as compare
use Rattle.store_opening.proofs.ReadLemmas.{still, then_reads}
use Rattle.store_opening.proofs.ThreeReads.{three_read, three_show}
use Rattle.store_opening.proofs.kept.keeps_rows.Goals as goal

pub rows_of-requires-clause-found : goal.rows_of-requires-clause-found
rows_of-requires-clause-found g c up = (c.requires.common up).names

pub keeps_part-requires-clause-rests : goal.keeps_part-requires-clause-rests
keeps_part-requires-clause-rests g c = c.in_ok-rows.ensures.reads.rests

pub keeps_part-requires-clause-found : goal.keeps_part-requires-clause-found
keeps_part-requires-clause-found g c = still (λ (d : Database). FindsPart d.schema part.Verdicts) c.in_ok-rows.ensures.reads c.requires.verdicts

pub keeps_part-requires-2-clause-rests : goal.keeps_part-requires-2-clause-rests
keeps_part-requires-2-clause-rests g c = c.in_ok-verdicts.ensures.reads.rests

pub keeps_part-requires-2-clause-found : goal.keeps_part-requires-2-clause-found
keeps_part-requires-2-clause-found g c =
    let both = then_reads c.rows_of.ensures.reads c.keeps_part.ensures.reads in
    still (λ (d : Database). FindsPart d.schema part.Parked) both (λ up. (c.requires.common up).parked)

pub returns-in_err-names-clause-reads : goal.returns-in_err-names-clause-reads
returns-in_err-names-clause-reads g c = c.rows_of.ensures.reads

pub returns-in_err-verdicts-clause-reads : goal.returns-in_err-verdicts-clause-reads
returns-in_err-verdicts-clause-reads g c = then_reads c.rows_of.ensures.reads c.keeps_part.ensures.reads

pub returns-in_err-parked-clause-reads : goal.returns-in_err-parked-clause-reads
returns-in_err-parked-clause-reads g c =
    three_read c.rows_of.ensures.reads c.keeps_part.ensures.reads c.keeps_part-2.ensures.reads

pub returns-clause-reads : goal.returns-clause-reads
returns-clause-reads g c =
    three_read c.rows_of.ensures.reads c.keeps_part.ensures.reads c.keeps_part-2.ensures.reads

pub returns-clause-up : goal.returns-clause-up
returns-clause-up g c =
    c.in_ok-parked.ensures.up

pub returns-clause-kept : goal.returns-clause-kept
returns-clause-kept g c up =
    let two = c.keeps_part-2.ensures.reads.was_up up in
    let n = c.in_ok-rows.rows.items in
    let shown = c.in_ok-rows.ensures.shows (c.keeps_part.ensures.reads.was_up two) in
    let v = c.in_ok-verdicts.ensures.kept two in
    let p = c.in_ok-parked.ensures.kept up in (
      n,
      v.0,
      p.0,
      three_show c.rows_of.ensures.reads c.keeps_part.ensures.reads c.keeps_part-2.ensures.reads shown v.1 p.1 up,
      c.all_three.ensures ∙ (λ i. c.in_ok-names.ensures i && (v.2 i && p.2 i))
          ∙ ap (λ (ms : List Message). compare.are_kept ms n v.0 p.0) c.in_ok-known.ensures.all,
    )
