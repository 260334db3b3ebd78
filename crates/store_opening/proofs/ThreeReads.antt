-- Three calls that read, one after the other, of which the first two went well.
use Rattle.std.proofs.Common.{List}
use Rattle.sqlite.specs.Order.{Row}
use Rattle.sqlite.specs.State.{State}
use Rattle.store_tables.specs.SqliteStates.{IsUp}
use Rattle.store_schema.specs.declared.part.DeskPart.TheVariants.{Names, Verdicts, Parked}
use Rattle.store_opening.specs.Opened.{Reads}
use Rattle.store_opening.specs.private.Selecting.{ShowsPart, ShowsRows}
use Rattle.store_opening.proofs.ReadLemmas.{before, then_reads}

module _ {a b c d : State} (one : Reads a b) (two : Reads b c) (three : Reads c d) where
  -- they read
  pub three_read : Reads a d
  three_read = then_reads (then_reads one two) three

  -- each showed the database as it was at first
  pub three_show : {N V P : List Row} → ShowsPart Names a.now N → ShowsPart Verdicts b.now V → ShowsPart Parked c.now P → IsUp d → ShowsRows a.now N V P
  three_show {V = V} {P = P} names verdicts parked up =
      let mid = three.was_up up in
      record {
        names_are = names;
        verdicts_are = before (λ db. ShowsPart Verdicts db V) one (two.was_up mid) verdicts;
        parked_are = before (λ db. ShowsPart Parked db P) (then_reads one two) mid parked;
      }
