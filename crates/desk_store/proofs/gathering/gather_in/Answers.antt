use Rattle.std.specs.Prelude.{Contains}
use Rattle.sqlite.specs.Held.{state}
use Rattle.messages.specs.NameRows.{ShowSet}
use Rattle.store_tables.specs.Kept.{HoldsText}
use Rattle.store_schema.proofs.ShapeLemmas.{common_of}
use Rattle.messages.proofs.SetsShown.{shown_too}
use Rattle.desk_store.proofs.SetListed.{set_listed}
use Rattle.desk_store.proofs.gathering.gather_in.Goals as goal

pub shown_of-requires-clause-common : goal.shown_of-requires-clause-common
shown_of-requires-clause-common g c up = (common_of (state g.S.Store c.args.conn.now).now.schema (c.requires.kept up).desk.tidy.desk).0

pub shown_of-requires-clause-verdicts : goal.shown_of-requires-clause-verdicts
shown_of-requires-clause-verdicts g c up = (common_of (state g.S.Store c.args.conn.now).now.schema (c.requires.kept up).desk.tidy.desk).1

pub returns-clause-known : goal.returns-clause-known
returns-clause-known g c up =
    let db = (state g.S.Store c.args.conn.now).now in
    let kept = c.requires.kept (c.shown_of.ensures.reads.was_up up) in
    let listed = set_listed db (record { texts = kept.desk.texts; only = kept.desk.only }) in
    let show = shown_too (HoldsText db) (λ m. Contains listed.0 m) listed.1 c.in_ok-shown.shown.names.items c.in_ok-shown.shown.verdicts.items
    (c.in_ok-shown.ensures.shown up kept) in
    let given : ShowSet (λ m. Contains listed.0 m) c.as_slice-names.result.now c.as_slice-verdicts.result.now =
    rw (c.as_slice-names.ensures.value, c.as_slice-verdicts.ensures.value) show in
    (listed.0, listed.1, c.in_ok-of_rows.ensures listed.0 given)
