use Rattle.std.proofs.Common.{ap, inl, inr, le_refl, refl}
use Rattle.sqlite.specs.Held.{state}
use Rattle.store_tables.specs.Stored.{Content}
use Rattle.desk_store.proofs.FoundLemmas.{replaced_more, replaced_or_not, roster_lasts, same_texts, up_left}
use Rattle.store_schema.proofs.BesideLemmas.{same_beside}
use Rattle.desk_store.proofs.OutcomeLemmas.{ok_no_err}
use Rattle.desk_store.proofs.sqlite_keeper.SqliteKeeperKeeper.replace.Goals as goal

pub returns-in-Ok-clause-desk : goal.returns-in-Ok-clause-desk
returns-in-Ok-clause-desk g c up = (c.in-Ok.ensures.becomes up).desk

pub returns-in-Ok-clause-recorded : goal.returns-in-Ok-clause-recorded
returns-in-Ok-clause-recorded g c up = ap (λ (d : Content). d.roster) (c.in-Ok.ensures.becomes up).content

pub returns-in-Ok-clause-held : goal.returns-in-Ok-clause-held
returns-in-Ok-clause-held g c up = same_texts (state g.S.Store c.args.self.now.conn).now
    (state g.S.Store c.replace_in-replaced.new.conn).now (ap (λ (d : Content). d.texts) (c.in-Ok.ensures.becomes up).content)

pub returns-in-Ok-clause-unchanged : goal.returns-in-Ok-clause-unchanged
returns-in-Ok-clause-unchanged g c up = tt

pub returns-in-Ok-clause-served : goal.returns-in-Ok-clause-served
returns-in-Ok-clause-served g c = record {
  was_up = λ up. c.replace_in-replaced.ensures.was_up up;
  was_clean = λ clean. c.replace_in-replaced.ensures.was_clean clean;
  shuts = λ up clean. inl (c.in-Ok.ensures.up clean);
  counts = le_refl _;
  cause = λ is. ok_no_err _ _ is;
  up = λ up clean. inr (c.in-Ok.ensures.up clean);
  others = λ up. c.in-Ok.ensures.beside up;
}

pub returns-in-Ok-clause-crash : goal.returns-in-Ok-clause-crash
returns-in-Ok-clause-crash g c up clean left may = replaced_or_not (state g.S.Store c.args.self.now.conn)
    (state g.S.Store c.replace_in-replaced.new.conn) c.settles.ensures up clean left may
    c.args.text.now c.replace_in-replaced.ensures.survives

pub returns-in-Ok-clause-lasting : goal.returns-in-Ok-clause-lasting
returns-in-Ok-clause-lasting g c up clean left may =
    let still = c.in-Ok.ensures.up clean in
    roster_lasts (state g.S.Store c.replace_in-replaced.new.conn) c.settles-2.ensures still left may c.args.text.now
    (state g.S.Store c.args.self.now.conn).now (c.in-Ok.ensures.becomes still)

pub returns-in-Ok-clause-durable : goal.returns-in-Ok-clause-durable
returns-in-Ok-clause-durable g c up left may = up_left (state g.S.Store c.replace_in-replaced.new.conn) c.settles-2.ensures up left may

pub returns-in-Err-clause-desk : goal.returns-in-Err-clause-desk
returns-in-Err-clause-desk g c up = tt

pub returns-in-Err-clause-recorded : goal.returns-in-Err-clause-recorded
returns-in-Err-clause-recorded g c up = tt

pub returns-in-Err-clause-held : goal.returns-in-Err-clause-held
returns-in-Err-clause-held g c up = tt

pub returns-in-Err-clause-unchanged : goal.returns-in-Err-clause-unchanged
returns-in-Err-clause-unchanged g c up = c.in-Err.ensures.unchanged up

pub returns-in-Err-clause-served : goal.returns-in-Err-clause-served
returns-in-Err-clause-served g c = record {
  was_up = λ up. c.replace_in-replaced.ensures.was_up up;
  was_clean = λ clean. c.replace_in-replaced.ensures.was_clean clean;
  shuts = λ up clean. inr c.told.ensures.failed;
  counts = c.told.ensures.counts;
  cause = λ is. c.told.ensures.failed;
  up = λ up clean. inl refl;
  others = λ up. same_beside _ _ (c.in-Err.ensures.unchanged up);
}

pub returns-in-Err-clause-crash : goal.returns-in-Err-clause-crash
returns-in-Err-clause-crash g c up clean left may = replaced_or_not (state g.S.Store c.args.self.now.conn)
    (state g.S.Store c.replace_in-replaced.new.conn) c.settles.ensures up clean left may
    c.args.text.now c.replace_in-replaced.ensures.survives

pub returns-in-Err-clause-lasting : goal.returns-in-Err-clause-lasting
returns-in-Err-clause-lasting g c up clean = tt

pub returns-in-Err-clause-durable : goal.returns-in-Err-clause-durable
returns-in-Err-clause-durable g c up left may = up_left (state g.S.Store c.replace_in-replaced.new.conn) c.settles-2.ensures up left may

pub returns-in-Ok-clause-live : goal.returns-in-Ok-clause-live
returns-in-Ok-clause-live g c clean = c.in-Ok.ensures.up clean

pub returns-in-Ok-clause-leaves : goal.returns-in-Ok-clause-leaves
returns-in-Ok-clause-leaves g c clean left may =
    replaced_more (state g.S.Store c.args.self.now.conn) (state g.S.Store c.replace_in-replaced.new.conn) clean left may
    c.args.text.now c.replace_in-replaced.ensures.survives

pub returns-in-Err-clause-live : goal.returns-in-Err-clause-live
returns-in-Err-clause-live g c clean = tt

pub returns-in-Err-clause-leaves : goal.returns-in-Err-clause-leaves
returns-in-Err-clause-leaves g c clean left may =
    replaced_more (state g.S.Store c.args.self.now.conn) (state g.S.Store c.replace_in-replaced.new.conn) clean left may
    c.args.text.now c.replace_in-replaced.ensures.survives
