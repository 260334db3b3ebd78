use Rattle.std.proofs.Common.{ap, inl, inr, le_refl, refl}
use Rattle.sqlite.specs.Held.{state}
use Rattle.store_tables.specs.Stored.{Content}
use Rattle.desk_store.proofs.FoundLemmas.{holds_nothing, made_kept, made_lasts, made_more, nothing_or_made, up_left}
use Rattle.store_schema.proofs.BesideLemmas.{same_beside}
use Rattle.desk_store.proofs.OutcomeLemmas.{ok_no_err}
use Rattle.desk_store.proofs.sqlite_keeper.SqliteKeeperKeeper.make.Goals as goal

pub returns-then-not-is_autocommit-clause-made : goal.returns-then-not-is_autocommit-clause-made
returns-then-not-is_autocommit-clause-made g c up = tt

pub returns-then-not-is_autocommit-clause-recorded : goal.returns-then-not-is_autocommit-clause-recorded
returns-then-not-is_autocommit-clause-recorded g c up = tt

pub returns-then-not-is_autocommit-clause-nothing : goal.returns-then-not-is_autocommit-clause-nothing
returns-then-not-is_autocommit-clause-nothing g c up = tt

pub returns-then-not-is_autocommit-clause-unmade : goal.returns-then-not-is_autocommit-clause-unmade
returns-then-not-is_autocommit-clause-unmade g c up = refl

pub returns-then-not-is_autocommit-clause-served : goal.returns-then-not-is_autocommit-clause-served
returns-then-not-is_autocommit-clause-served g c = record {
  was_up = λ up. up;
  was_clean = λ clean. clean;
  shuts = λ up clean. inl up;
  counts = c.storage.ensures.counts;
  cause = λ is. c.storage.ensures.failed;
  up = λ up clean. inl refl;
  others = λ up it stands. stands;
}

pub returns-then-not-is_autocommit-clause-crash : goal.returns-then-not-is_autocommit-clause-crash
returns-then-not-is_autocommit-clause-crash g c up clean left may =
    inl ((up_left (state g.S.Store c.args.self.now.conn) c.settles.ensures up left may).empty (c.requires up))

pub returns-then-not-is_autocommit-clause-lasting : goal.returns-then-not-is_autocommit-clause-lasting
returns-then-not-is_autocommit-clause-lasting g c up clean = tt

pub returns-then-not-is_autocommit-clause-durable : goal.returns-then-not-is_autocommit-clause-durable
returns-then-not-is_autocommit-clause-durable g c up left may = up_left (state g.S.Store c.args.self.now.conn) c.settles.ensures up left may

pub returns-in-Ok-clause-made : goal.returns-in-Ok-clause-made
returns-in-Ok-clause-made g c up = made_kept c.args.text.now (state g.S.Store c.make-made.new.conn).now (c.in-Ok.ensures.made up).makes

pub returns-in-Ok-clause-recorded : goal.returns-in-Ok-clause-recorded
returns-in-Ok-clause-recorded g c up = ap (λ (d : Content). d.roster) (c.in-Ok.ensures.made up).makes.content

pub returns-in-Ok-clause-nothing : goal.returns-in-Ok-clause-nothing
returns-in-Ok-clause-nothing g c up = holds_nothing (state g.S.Store c.make-made.new.conn).now c.args.text.now (c.in-Ok.ensures.made up).makes.content

pub returns-in-Ok-clause-unmade : goal.returns-in-Ok-clause-unmade
returns-in-Ok-clause-unmade g c up = tt

pub returns-in-Ok-clause-served : goal.returns-in-Ok-clause-served
returns-in-Ok-clause-served g c = record {
  was_up = λ up. c.make-made.ensures.was_up up;
  was_clean = λ clean. c.make-made.ensures.was_clean clean;
  shuts = λ up clean. inl (c.in-Ok.ensures.up clean);
  counts = le_refl _;
  cause = λ is. ok_no_err _ _ is;
  up = λ up clean. inr (c.in-Ok.ensures.up clean);
  others = λ up. c.in-Ok.ensures.beside up;
}

pub returns-in-Ok-clause-crash : goal.returns-in-Ok-clause-crash
returns-in-Ok-clause-crash g c up clean left may = nothing_or_made (state g.S.Store c.args.self.now.conn)
    (state g.S.Store c.make-made.new.conn) c.settles.ensures up clean left may c.args.text.now (c.requires up) c.make-made.ensures.survives

pub returns-in-Ok-clause-lasting : goal.returns-in-Ok-clause-lasting
returns-in-Ok-clause-lasting g c up clean left may =
    let still = c.in-Ok.ensures.up clean in
    made_lasts (state g.S.Store c.make-made.new.conn) c.settles-2.ensures still left may c.args.text.now (c.in-Ok.ensures.made still).makes

pub returns-in-Ok-clause-durable : goal.returns-in-Ok-clause-durable
returns-in-Ok-clause-durable g c up left may = up_left (state g.S.Store c.make-made.new.conn) c.settles-2.ensures up left may

pub returns-in-Err-clause-made : goal.returns-in-Err-clause-made
returns-in-Err-clause-made g c up = tt

pub returns-in-Err-clause-recorded : goal.returns-in-Err-clause-recorded
returns-in-Err-clause-recorded g c up = tt

pub returns-in-Err-clause-nothing : goal.returns-in-Err-clause-nothing
returns-in-Err-clause-nothing g c up = tt

pub returns-in-Err-clause-unmade : goal.returns-in-Err-clause-unmade
returns-in-Err-clause-unmade g c up = c.in-Err.ensures.unmade up

pub returns-in-Err-clause-served : goal.returns-in-Err-clause-served
returns-in-Err-clause-served g c = record {
  was_up = λ up. c.make-made.ensures.was_up up;
  was_clean = λ clean. c.make-made.ensures.was_clean clean;
  shuts = λ up clean. inr c.told.ensures.failed;
  counts = c.told.ensures.counts;
  cause = λ is. c.told.ensures.failed;
  up = λ up clean. inl refl;
  others = λ up. same_beside _ _ (c.in-Err.ensures.unmade up);
}

pub returns-in-Err-clause-crash : goal.returns-in-Err-clause-crash
returns-in-Err-clause-crash g c up clean left may = nothing_or_made (state g.S.Store c.args.self.now.conn)
    (state g.S.Store c.make-made.new.conn) c.settles.ensures up clean left may c.args.text.now (c.requires up) c.make-made.ensures.survives

pub returns-in-Err-clause-lasting : goal.returns-in-Err-clause-lasting
returns-in-Err-clause-lasting g c up clean = tt

pub returns-in-Err-clause-durable : goal.returns-in-Err-clause-durable
returns-in-Err-clause-durable g c up left may = up_left (state g.S.Store c.make-made.new.conn) c.settles-2.ensures up left may

pub returns-then-not-is_autocommit-clause-live : goal.returns-then-not-is_autocommit-clause-live
returns-then-not-is_autocommit-clause-live g c clean = tt

pub returns-then-not-is_autocommit-clause-leaves : goal.returns-then-not-is_autocommit-clause-leaves
returns-then-not-is_autocommit-clause-leaves g c clean left may = inl may

pub returns-in-Ok-clause-live : goal.returns-in-Ok-clause-live
returns-in-Ok-clause-live g c clean = c.in-Ok.ensures.up clean

pub returns-in-Ok-clause-leaves : goal.returns-in-Ok-clause-leaves
returns-in-Ok-clause-leaves g c clean left may =
    made_more (state g.S.Store c.args.self.now.conn) (state g.S.Store c.make-made.new.conn) clean left may c.args.text.now c.make-made.ensures.survives

pub returns-in-Err-clause-live : goal.returns-in-Err-clause-live
returns-in-Err-clause-live g c clean = tt

pub returns-in-Err-clause-leaves : goal.returns-in-Err-clause-leaves
returns-in-Err-clause-leaves g c clean left may =
    made_more (state g.S.Store c.args.self.now.conn) (state g.S.Store c.make-made.new.conn) clean left may c.args.text.now c.make-made.ensures.survives
