-- The test of the rows of the three tables holds exactly where they are held.
use Rattle.std.proofs.Common.{◌≡◌, true, List, Contains}
use Rattle.std.proofs.lemmas.Bool.{and_from, and_parts}
use Rattle.sqlite.specs.Order.{Row}
use Rattle.messages.specs.Wire.{IsMessage}
use Rattle.messages.specs.declared.message.Message.{Message}
use Rattle.store_opening.specs.private.Rows.{HaveRowids}
use Rattle.store_opening.specs.private.Compare.{are_kept}
use Rattle.store_opening.specs.private.Reading.{AreHeld}
use Rattle.store_opening.proofs.KeyedCompared.{is_keyed_so, keyed_is}
use Rattle.store_opening.proofs.PlainRows.{names_plain, parked_plain, plain_rows, verdicts_plain}
use Rattle.store_opening.proofs.RowsCompared.{rows_are, test_holds}

module _ (all : List Message) (known : (m : Message) → Contains all m → IsMessage m) (N V P : List Row) where
  abbrev S : Message → Type 0
  S m = Contains all m

  pub held_where_kept : are_kept all N V P ≡ true → AreHeld S N V P
  held_where_kept h =
      let one = and_parts _ _ h in
      let two = and_parts _ _ one.1 in
      let names = and_parts _ _ one.0 in
      let verdicts = and_parts _ _ two.0 in
      let parked = and_parts _ _ two.1 in
      record {
        rows = rows_are all known N V P (and_from _ _ names.0 (and_from _ _ verdicts.0 parked.0));
        names = keyed_is N names.1;
        verdicts = keyed_is V verdicts.1;
        parked = keyed_is P parked.1;
      }

  pub kept_where_held : HaveRowids N → HaveRowids V → HaveRowids P → AreHeld S N V P → are_kept all N V P ≡ true
  kept_where_held wideN wideV wideP held =
      let rows = and_parts _ _ (test_holds all known N V P wideN wideV wideP held.rows) in
      let rest = and_parts _ _ rows.1 in
      and_from _ _ (and_from _ _ rows.0 (is_keyed_so N (plain_rows N held.names wideN (names_plain S N V P held.rows)) held.names))
      (and_from _ _ (and_from _ _ rest.0 (is_keyed_so V (plain_rows V held.verdicts wideV (verdicts_plain S N V P held.rows)) held.verdicts))
      (and_from _ _ rest.1 (is_keyed_so P (plain_rows P held.parked wideP (parked_plain S N V P held.rows)) held.parked)))
