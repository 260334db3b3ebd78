use Rattle.std.proofs.Common.{ap, inl, inr, le_refl, refl, subst}
use Rattle.sqlite.specs.Effect.{Database}
use Rattle.sqlite.specs.Held.{state}
use Rattle.sqlite.specs.State.{Survives}
use Rattle.store_tables.specs.Stored.{Content, content_of}
use Rattle.store_tables.specs.SqliteStates.{IsUp}
use Rattle.store_tables.specs.Committed.{ArrivesAt}
use Rattle.desk_store.proofs.ArrivalLemmas.{arrival_keeps, content_wired, held_wired, told_wired}
use Rattle.desk_store.proofs.FoundLemmas.{arrival_lasts, one_more, up_left, with_message, with_or_without}
use Rattle.store_schema.proofs.BesideLemmas.{same_beside, spared_beside}
use Rattle.desk_store.proofs.OutcomeLemmas.{ok_no_err, storage_caused}
use Rattle.desk_store.proofs.sqlite_keeper.SqliteKeeperKeeper.add.Goals as goal

pub arrive-arrived-requires-clause-desk : goal.arrive-arrived-requires-clause-desk
arrive-arrived-requires-clause-desk g c up = (c.requires.desk up).desk

pub arrive-arrived-requires-clause-written : goal.arrive-arrived-requires-clause-written
arrive-arrived-requires-clause-written g c = (c.args.message.now, c.requires.message, c.requires.text, c.requires.short)

pub returns-then-not-is_autocommit-clause-added : goal.returns-then-not-is_autocommit-clause-added
returns-then-not-is_autocommit-clause-added g c up = tt

pub returns-then-not-is_autocommit-clause-repeated : goal.returns-then-not-is_autocommit-clause-repeated
returns-then-not-is_autocommit-clause-repeated g c up there = tt

pub returns-then-not-is_autocommit-clause-unchanged : goal.returns-then-not-is_autocommit-clause-unchanged
returns-then-not-is_autocommit-clause-unchanged g c up = refl

pub returns-then-not-is_autocommit-clause-desk : goal.returns-then-not-is_autocommit-clause-desk
returns-then-not-is_autocommit-clause-desk g c up = c.requires.desk up

pub returns-then-not-is_autocommit-clause-roster : goal.returns-then-not-is_autocommit-clause-roster
returns-then-not-is_autocommit-clause-roster g c up = refl

pub returns-then-not-is_autocommit-clause-served : goal.returns-then-not-is_autocommit-clause-served
returns-then-not-is_autocommit-clause-served g c = record {
  was_up = λ up. up;
  was_clean = λ clean. clean;
  shuts = λ up clean. inl up;
  counts = c.storage.ensures.counts;
  cause = λ is. c.storage.ensures.failed;
  up = λ up clean. inl refl;
  others = λ up it stands. stands;
}

pub returns-then-not-is_autocommit-clause-crash : goal.returns-then-not-is_autocommit-clause-crash
returns-then-not-is_autocommit-clause-crash g c up clean left may =
    inl ((up_left (state g.S.Store c.args.self.now.conn) c.settles.ensures up left may).desk (c.requires.desk up))

pub returns-then-not-is_autocommit-clause-lasting : goal.returns-then-not-is_autocommit-clause-lasting
returns-then-not-is_autocommit-clause-lasting g c up clean = tt

pub returns-then-not-is_autocommit-clause-durable : goal.returns-then-not-is_autocommit-clause-durable
returns-then-not-is_autocommit-clause-durable g c up left may =
    (up_left (state g.S.Store c.args.self.now.conn) c.settles.ensures up left may).desk (c.requires.desk up)

pub returns-in-Ok-clause-added : goal.returns-in-Ok-clause-added
returns-in-Ok-clause-added g c up = with_message (state g.S.Store c.args.self.now.conn).now
    (state g.S.Store c.arrive-arrived.new.conn).now c.args.message.now c.requires.message (content_wired (state g.S.Store c.args.self.now.conn).now
    (state g.S.Store c.arrive-arrived.new.conn).now c.args.message.now c.args.text.now c.requires.text (c.in-Ok.ensures.arrived up))

pub returns-then-not-is_autocommit-clause-told : goal.returns-then-not-is_autocommit-clause-told
returns-then-not-is_autocommit-clause-told g c up = tt

pub returns-in-Ok-clause-told : goal.returns-in-Ok-clause-told
returns-in-Ok-clause-told g c up = told_wired (state g.S.Store c.args.self.now.conn).now c.args.message.now c.args.text.now
    c.in-Ok.arrival c.requires.message c.requires.text (c.in-Ok.ensures.told up)

pub returns-in-Err-clause-told : goal.returns-in-Err-clause-told
returns-in-Err-clause-told g c up = tt

pub returns-in-Ok-clause-repeated : goal.returns-in-Ok-clause-repeated
returns-in-Ok-clause-repeated g c up there =
    c.in-Ok.ensures.repeated up (held_wired (state g.S.Store c.args.self.now.conn).now c.args.message.now c.args.text.now c.requires.text there)

pub returns-in-Ok-clause-unchanged : goal.returns-in-Ok-clause-unchanged
returns-in-Ok-clause-unchanged g c up = tt

pub returns-in-Ok-clause-roster : goal.returns-in-Ok-clause-roster
returns-in-Ok-clause-roster g c up = ap (λ (d : Content). d.roster) (c.in-Ok.ensures.arrived up)

pub returns-in-Ok-clause-desk : goal.returns-in-Ok-clause-desk
returns-in-Ok-clause-desk g c up = arrival_keeps (state g.S.Store c.args.self.now.conn) (state g.S.Store c.arrive-arrived.new.conn) c.arrive-arrived.result
    c.requires.desk c.arrive-arrived.ensures.was_up c.arrive-arrived.ensures.desk c.arrive-arrived.ensures.others c.arrive-arrived.ensures.unchanged up

pub returns-in-Ok-clause-served : goal.returns-in-Ok-clause-served
returns-in-Ok-clause-served g c = record {
  was_up = λ up. c.arrive-arrived.ensures.was_up up;
  was_clean = λ clean. c.arrive-arrived.ensures.was_clean clean;
  shuts = λ up clean. inl (c.in-Ok.ensures.up clean);
  counts = le_refl _;
  cause = λ is. ok_no_err _ _ is;
  up = λ up clean. inr (c.in-Ok.ensures.up clean);
  others = λ up. spared_beside _ _ (c.requires.desk (c.arrive-arrived.ensures.was_up up)).desk.tidy.desk (c.in-Ok.ensures.others up);
}

pub returns-in-Ok-clause-crash : goal.returns-in-Ok-clause-crash
returns-in-Ok-clause-crash g c up clean left may =
    with_or_without (state g.S.Store c.args.self.now.conn) (state g.S.Store c.arrive-arrived.new.conn) c.settles.ensures up clean left may c.args.message.now
    c.requires.message (c.requires.desk up) (subst (λ t. Survives (state g.S.Store c.args.self.now.conn) (state g.S.Store c.arrive-arrived.new.conn)
    (λ trees. IsUp (state g.S.Store c.args.self.now.conn) × ArrivesAt t (state g.S.Store c.args.self.now.conn).now trees)) c.requires.text
    c.arrive-arrived.ensures.survives)

pub returns-in-Ok-clause-lasting : goal.returns-in-Ok-clause-lasting
returns-in-Ok-clause-lasting g c up clean left may =
    let still = c.in-Ok.ensures.up clean in
    arrival_lasts (state g.S.Store c.arrive-arrived.new.conn) c.settles-2.ensures still left may (state g.S.Store c.args.self.now.conn).now c.args.message.now
    c.requires.message (arrival_keeps (state g.S.Store c.args.self.now.conn) (state g.S.Store c.arrive-arrived.new.conn) c.arrive-arrived.result
    c.requires.desk c.arrive-arrived.ensures.was_up c.arrive-arrived.ensures.desk c.arrive-arrived.ensures.others c.arrive-arrived.ensures.unchanged still)
    (content_wired (state g.S.Store c.args.self.now.conn).now
    (state g.S.Store c.arrive-arrived.new.conn).now c.args.message.now c.args.text.now c.requires.text (c.in-Ok.ensures.arrived still))

pub returns-in-Ok-clause-durable : goal.returns-in-Ok-clause-durable
returns-in-Ok-clause-durable g c up left may = (up_left (state g.S.Store c.arrive-arrived.new.conn) c.settles-2.ensures up left may).desk
    (arrival_keeps (state g.S.Store c.args.self.now.conn) (state g.S.Store c.arrive-arrived.new.conn) c.arrive-arrived.result c.requires.desk
    c.arrive-arrived.ensures.was_up c.arrive-arrived.ensures.desk c.arrive-arrived.ensures.others c.arrive-arrived.ensures.unchanged up)

pub returns-in-Err-clause-added : goal.returns-in-Err-clause-added
returns-in-Err-clause-added g c up = tt

pub returns-in-Err-clause-repeated : goal.returns-in-Err-clause-repeated
returns-in-Err-clause-repeated g c up there = tt

pub returns-in-Err-clause-unchanged : goal.returns-in-Err-clause-unchanged
returns-in-Err-clause-unchanged g c up = c.in-Err.ensures.unchanged up

pub returns-in-Err-clause-roster : goal.returns-in-Err-clause-roster
returns-in-Err-clause-roster g c up = ap (λ (d : Database). (content_of d).roster) (c.in-Err.ensures.unchanged up)

pub returns-in-Err-clause-desk : goal.returns-in-Err-clause-desk
returns-in-Err-clause-desk g c up = arrival_keeps (state g.S.Store c.args.self.now.conn) (state g.S.Store c.arrive-arrived.new.conn) c.arrive-arrived.result
    c.requires.desk c.arrive-arrived.ensures.was_up c.arrive-arrived.ensures.desk c.arrive-arrived.ensures.others c.arrive-arrived.ensures.unchanged up

pub returns-in-Err-clause-served : goal.returns-in-Err-clause-served
returns-in-Err-clause-served g c = record {
  was_up = λ up. c.arrive-arrived.ensures.was_up up;
  was_clean = λ clean. c.arrive-arrived.ensures.was_clean clean;
  shuts = λ up clean. inr c.told.ensures.failed;
  counts = c.told.ensures.counts;
  cause = λ is. c.told.ensures.failed;
  up = λ up clean. inl refl;
  others = λ up. same_beside _ _ (c.in-Err.ensures.unchanged up);
}

pub returns-in-Err-clause-crash : goal.returns-in-Err-clause-crash
returns-in-Err-clause-crash g c up clean left may =
    with_or_without (state g.S.Store c.args.self.now.conn) (state g.S.Store c.arrive-arrived.new.conn) c.settles.ensures up clean left may c.args.message.now
    c.requires.message (c.requires.desk up) (subst (λ t. Survives (state g.S.Store c.args.self.now.conn) (state g.S.Store c.arrive-arrived.new.conn)
    (λ trees. IsUp (state g.S.Store c.args.self.now.conn) × ArrivesAt t (state g.S.Store c.args.self.now.conn).now trees)) c.requires.text
    c.arrive-arrived.ensures.survives)

pub returns-in-Err-clause-lasting : goal.returns-in-Err-clause-lasting
returns-in-Err-clause-lasting g c up clean = tt

pub returns-in-Err-clause-durable : goal.returns-in-Err-clause-durable
returns-in-Err-clause-durable g c up left may = (up_left (state g.S.Store c.arrive-arrived.new.conn) c.settles-2.ensures up left may).desk
    (arrival_keeps (state g.S.Store c.args.self.now.conn) (state g.S.Store c.arrive-arrived.new.conn) c.arrive-arrived.result c.requires.desk
    c.arrive-arrived.ensures.was_up c.arrive-arrived.ensures.desk c.arrive-arrived.ensures.others c.arrive-arrived.ensures.unchanged up)

pub returns-then-not-is_autocommit-clause-live : goal.returns-then-not-is_autocommit-clause-live
returns-then-not-is_autocommit-clause-live g c clean = tt

pub returns-then-not-is_autocommit-clause-leaves : goal.returns-then-not-is_autocommit-clause-leaves
returns-then-not-is_autocommit-clause-leaves g c clean left may = inl may

pub returns-in-Ok-clause-live : goal.returns-in-Ok-clause-live
returns-in-Ok-clause-live g c clean = c.in-Ok.ensures.up clean

pub returns-in-Ok-clause-leaves : goal.returns-in-Ok-clause-leaves
returns-in-Ok-clause-leaves g c clean left may =
    one_more (state g.S.Store c.args.self.now.conn) (state g.S.Store c.arrive-arrived.new.conn) clean left may
    c.args.message.now c.requires.message c.requires.desk
    (subst (λ t. Survives (state g.S.Store c.args.self.now.conn) (state g.S.Store c.arrive-arrived.new.conn)
    (λ trees. IsUp (state g.S.Store c.args.self.now.conn) × ArrivesAt t (state g.S.Store c.args.self.now.conn).now trees)) c.requires.text
    c.arrive-arrived.ensures.survives)

pub returns-in-Err-clause-live : goal.returns-in-Err-clause-live
returns-in-Err-clause-live g c clean = tt

pub returns-in-Err-clause-leaves : goal.returns-in-Err-clause-leaves
returns-in-Err-clause-leaves g c clean left may =
    one_more (state g.S.Store c.args.self.now.conn) (state g.S.Store c.arrive-arrived.new.conn) clean left may
    c.args.message.now c.requires.message c.requires.desk
    (subst (λ t. Survives (state g.S.Store c.args.self.now.conn) (state g.S.Store c.arrive-arrived.new.conn)
    (λ trees. IsUp (state g.S.Store c.args.self.now.conn) × ArrivesAt t (state g.S.Store c.args.self.now.conn).now trees)) c.requires.text
    c.arrive-arrived.ensures.survives)

pub returns-then-not-is_autocommit-clause-cause : goal.returns-then-not-is_autocommit-clause-cause
returns-then-not-is_autocommit-clause-cause g c up clean held is =
    absurd (let auto = (c.args.self.now.rests up).autocommit in let waits = c.if-not-is_autocommit.true in let shown = c.is_autocommit.ensures.value in cc)

pub returns-in-Ok-clause-cause : goal.returns-in-Ok-clause-cause
returns-in-Ok-clause-cause g c up clean held is = ok_no_err _ _ is

pub returns-in-Err-clause-cause : goal.returns-in-Err-clause-cause
returns-in-Err-clause-cause g c up clean held is =
    let old = state g.S.Store c.args.self.now.conn in
    storage_caused old (state g.S.Store c.arrive-arrived.new.conn) c.in-Err.refused c.told.result c.told.ensures.memory
    (c.in-Err.ensures.explained up clean (held_wired old.now c.args.message.now c.args.text.now c.requires.text held)) cc
