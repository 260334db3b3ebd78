use Rattle.sqlite.specs.Held.{state}
use Rattle.std.proofs.Common.{subst, sym}
use Rattle.sqlite.specs.Effect.{Database}
use Rattle.store_tables.specs.Kept.{HoldsText}
use Rattle.store_tables.specs.Sets.{Lists}
use Rattle.store_opening.specs.Opened.{IsOldDesk}
use Rattle.desk_store.proofs.ReplacingLemmas.{found_older, of_today, read_only, read_refused, then_replaces}
use Rattle.desk_store.proofs.replacing.replace_in.Goals as goal

pub replace_today-requires-clause-desk : goal.replace_today-requires-clause-desk
replace_today-requires-clause-desk g c up =
    of_today (state g.S.Store c.args.conn.now).now c.shape_in.result c.shape_in.ensures (c.is_of_today.ensures c.if-is_of_today.true) (c.requires.kept up)

pub returns-in_err-found : goal.returns-in_err-found
returns-in_err-found g c = read_only c.args.roster.now (state g.S.Store c.args.conn.now)
    (state g.S.Store c.look.new.conn) c.look.ensures.reads c.from_residual.result c.from_residual.ensures.0

pub replace_older-requires-clause-rests : goal.replace_older-requires-clause-rests
replace_older-requires-clause-rests g c = c.look.ensures.reads.rests

pub replace_older-requires-clause-desk : goal.replace_older-requires-clause-desk
replace_older-requires-clause-desk g c up = subst IsOldDesk (sym (c.look.ensures.reads.same up))
    (found_older (state g.S.Store c.args.conn.now).now c.in_ok-found.found c.in-Old.contents c.in-Old.is (c.in_ok-found.ensures.found up)).0

pub replace_older-requires-clause-listed : goal.replace_older-requires-clause-listed
replace_older-requires-clause-listed g c up =
    subst (λ (d : Database). Lists (HoldsText d) c.in-Old.contents.messages.items) (sym (c.look.ensures.reads.same up))
    (found_older (state g.S.Store c.args.conn.now).now c.in_ok-found.found c.in-Old.contents c.in-Old.is (c.in_ok-found.ensures.found up)).2

pub returns-in-Old : goal.returns-in-Old
returns-in-Old g c =
    then_replaces c.args.roster.now (state g.S.Store c.args.conn.now) (state g.S.Store c.look.new.conn) c.look.ensures.reads
    (state g.S.Store c.replace_older.new.conn) c.replace_older.result c.replace_older.ensures

pub returns : goal.returns
returns g c = read_refused c.args.roster.now (state g.S.Store c.args.conn.now) (state g.S.Store c.look.new.conn) c.look.ensures.reads _
