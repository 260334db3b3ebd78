use Rattle.std.proofs.Common.{inl, inr, le_refl, refl}
use Rattle.sqlite.specs.Held.{state}
use Rattle.store_schema.proofs.ShapeLemmas.{common_of}
use Rattle.desk_store.proofs.FoundLemmas.{as_kept, none_more}
use Rattle.store_schema.proofs.BesideLemmas.{same_beside}
use Rattle.desk_store.proofs.OutcomeLemmas.{ok_no_err}
use Rattle.desk_store.proofs.sqlite_keeper.SqliteKeeperKeeper.messages.Goals as goal

pub messages_of-requires-clause-found : goal.messages_of-requires-clause-found
messages_of-requires-clause-found g c up = (common_of (state g.S.Store c.args.self.now.conn).now.schema (c.requires up).desk.tidy.desk).0.messages

pub returns-in-Ok-clause-listed : goal.returns-in-Ok-clause-listed
returns-in-Ok-clause-listed g c up = c.in-Ok.ensures.listed up

pub returns-in-Ok-clause-same : goal.returns-in-Ok-clause-same
returns-in-Ok-clause-same g c up = c.messages_of.ensures.reads.same up

pub returns-in-Ok-clause-served : goal.returns-in-Ok-clause-served
returns-in-Ok-clause-served g c = record {
  was_up = λ up. c.messages_of.ensures.reads.was_up up;
  was_clean = λ clean. c.messages_of.ensures.reads.was_clean clean;
  shuts = λ up clean. inl (c.in-Ok.ensures.up clean);
  counts = le_refl _;
  cause = λ is. ok_no_err _ _ is;
  up = λ up clean. inr (c.in-Ok.ensures.up clean);
  others = λ up. same_beside _ _ (c.messages_of.ensures.reads.same up);
}

pub returns-in-Ok-clause-crash : goal.returns-in-Ok-clause-crash
returns-in-Ok-clause-crash g c up clean left may = (as_kept (state g.S.Store c.args.self.now.conn)
    (state g.S.Store c.messages_of.new.conn) c.settles.ensures up clean left may c.messages_of.ensures.reads.survives).desk (c.requires up)

pub returns-in-Err-clause-listed : goal.returns-in-Err-clause-listed
returns-in-Err-clause-listed g c up = tt

pub returns-in-Err-clause-same : goal.returns-in-Err-clause-same
returns-in-Err-clause-same g c up = c.messages_of.ensures.reads.same up

pub returns-in-Err-clause-served : goal.returns-in-Err-clause-served
returns-in-Err-clause-served g c = record {
  was_up = λ up. c.messages_of.ensures.reads.was_up up;
  was_clean = λ clean. c.messages_of.ensures.reads.was_clean clean;
  shuts = λ up clean. inr c.told.ensures.failed;
  counts = c.told.ensures.counts;
  cause = λ is. c.told.ensures.failed;
  up = λ up clean. inl refl;
  others = λ up. same_beside _ _ (c.messages_of.ensures.reads.same up);
}

pub returns-in-Err-clause-crash : goal.returns-in-Err-clause-crash
returns-in-Err-clause-crash g c up clean left may = (as_kept (state g.S.Store c.args.self.now.conn)
    (state g.S.Store c.messages_of.new.conn) c.settles.ensures up clean left may c.messages_of.ensures.reads.survives).desk (c.requires up)

pub returns-in-Ok-clause-live : goal.returns-in-Ok-clause-live
returns-in-Ok-clause-live g c clean = c.in-Ok.ensures.up clean

pub returns-in-Ok-clause-leaves : goal.returns-in-Ok-clause-leaves
returns-in-Ok-clause-leaves g c clean left may =
    none_more (state g.S.Store c.args.self.now.conn) (state g.S.Store c.messages_of.new.conn) clean left may c.messages_of.ensures.reads.survives

pub returns-in-Err-clause-live : goal.returns-in-Err-clause-live
returns-in-Err-clause-live g c clean = tt

pub returns-in-Err-clause-leaves : goal.returns-in-Err-clause-leaves
returns-in-Err-clause-leaves g c clean left may =
    none_more (state g.S.Store c.args.self.now.conn) (state g.S.Store c.messages_of.new.conn) clean left may c.messages_of.ensures.reads.survives
