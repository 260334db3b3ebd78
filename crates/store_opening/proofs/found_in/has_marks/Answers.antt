use Rattle.std.proofs.Common.{rules}
use Rattle.sqlite.specs.Held.{state}
use Rattle.store_opening.proofs.Shown.{tells_marks}
use Rattle.store_opening.proofs.found_in.has_marks.Goals as goal

pub returns-clause-none : goal.returns-clause-none
returns-clause-none g c up =
    let before = c.rows_of.ensures.reads.was_up up in
    (tells_marks (state g.S.Store c.args.conn.now).now (c.requires.found before) c.in_ok-marks.marks.items
    (c.in_ok-marks.ensures.shows up) c.is_empty.result (search rules)).0

pub returns-clause-some : goal.returns-clause-some
returns-clause-some g c up =
    let before = c.rows_of.ensures.reads.was_up up in
    (tells_marks (state g.S.Store c.args.conn.now).now (c.requires.found before) c.in_ok-marks.marks.items
    (c.in_ok-marks.ensures.shows up) c.is_empty.result (search rules)).1
