use Rattle.std.proofs.Common.{inl, inr, le_refl, refl}
use Rattle.sqlite.specs.Held.{state}
use Rattle.desk_store.proofs.FoundLemmas.{as_kept, none_more}
use Rattle.store_schema.proofs.BesideLemmas.{same_beside}
use Rattle.desk_store.proofs.OutcomeLemmas.{ok_no_err}
use Rattle.desk_store.proofs.TellLemmas.{live_of, told, told_count, told_known}
use Rattle.desk_store.proofs.sqlite_keeper.SqliteKeeperKeeper.look.Goals as goal

pub returns-in-Ok-clause-found : goal.returns-in-Ok-clause-found
returns-in-Ok-clause-found g c up = told (state g.S.Store c.args.self.now.conn).now c.in-Ok.found c.shown.result c.shown.ensures (c.in-Ok.ensures.found up)

pub returns-in-Ok-clause-known : goal.returns-in-Ok-clause-known
returns-in-Ok-clause-known g c up =
    told_known (state g.S.Store c.args.self.now.conn).now c.in-Ok.found c.shown.result c.shown.ensures (c.in-Ok.ensures.found up)

pub returns-in-Ok-clause-counted : goal.returns-in-Ok-clause-counted
returns-in-Ok-clause-counted g c up =
    told_count (state g.S.Store c.args.self.now.conn).now c.in-Ok.found c.shown.result c.shown.ensures (c.in-Ok.ensures.found up)

pub returns-in-Ok-clause-same : goal.returns-in-Ok-clause-same
returns-in-Ok-clause-same g c up = c.look.ensures.reads.same up

pub returns-in-Ok-clause-served : goal.returns-in-Ok-clause-served
returns-in-Ok-clause-served g c = record {
  was_up = λ up. c.look.ensures.reads.was_up up;
  was_clean = λ clean. c.look.ensures.reads.was_clean clean;
  shuts = λ up clean. inl (c.in-Ok.ensures.up up clean);
  counts = le_refl _;
  cause = λ is. ok_no_err _ _ is;
  up = λ up clean. inr (c.in-Ok.ensures.up up clean);
  others = λ up. same_beside _ _ (c.look.ensures.reads.same up);
}

pub returns-in-Ok-clause-crash : goal.returns-in-Ok-clause-crash
returns-in-Ok-clause-crash g c up clean left may = as_kept (state g.S.Store c.args.self.now.conn)
    (state g.S.Store c.look.new.conn) c.settles.ensures up clean left may c.look.ensures.reads.survives

pub returns-in-Err-clause-found : goal.returns-in-Err-clause-found
returns-in-Err-clause-found g c up = tt

pub returns-in-Err-clause-known : goal.returns-in-Err-clause-known
returns-in-Err-clause-known g c up = tt

pub returns-in-Err-clause-counted : goal.returns-in-Err-clause-counted
returns-in-Err-clause-counted g c up = tt

pub returns-in-Err-clause-same : goal.returns-in-Err-clause-same
returns-in-Err-clause-same g c up = c.look.ensures.reads.same up

pub returns-in-Err-clause-served : goal.returns-in-Err-clause-served
returns-in-Err-clause-served g c = record {
  was_up = λ up. c.look.ensures.reads.was_up up;
  was_clean = λ clean. c.look.ensures.reads.was_clean clean;
  shuts = λ up clean. inr c.told.ensures.failed;
  counts = c.told.ensures.counts;
  cause = λ is. c.told.ensures.failed;
  up = λ up clean. inl refl;
  others = λ up. same_beside _ _ (c.look.ensures.reads.same up);
}

pub returns-in-Err-clause-crash : goal.returns-in-Err-clause-crash
returns-in-Err-clause-crash g c up clean left may = as_kept (state g.S.Store c.args.self.now.conn)
    (state g.S.Store c.look.new.conn) c.settles.ensures up clean left may c.look.ensures.reads.survives

pub returns-in-Ok-clause-live : goal.returns-in-Ok-clause-live
returns-in-Ok-clause-live g c clean = live_of c.in-Ok.found c.shown.result c.shown.ensures (c.in-Ok.ensures.live clean)

pub returns-in-Ok-clause-leaves : goal.returns-in-Ok-clause-leaves
returns-in-Ok-clause-leaves g c clean left may =
    none_more (state g.S.Store c.args.self.now.conn) (state g.S.Store c.look.new.conn) clean left may c.look.ensures.reads.survives

pub returns-in-Err-clause-live : goal.returns-in-Err-clause-live
returns-in-Err-clause-live g c clean = tt

pub returns-in-Err-clause-leaves : goal.returns-in-Err-clause-leaves
returns-in-Err-clause-leaves g c clean left may =
    none_more (state g.S.Store c.args.self.now.conn) (state g.S.Store c.look.new.conn) clean left may c.look.ensures.reads.survives
