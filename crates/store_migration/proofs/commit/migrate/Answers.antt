use Rattle.std.proofs.Common.{rules, ◌≡◌, false, IsTrue, refl, subst}
use Rattle.sqlite.specs.State.{HasCleanDisk, Shows, Survives}
use Rattle.sqlite.specs.Held.{state}
use Rattle.store_tables.specs.SqliteStates.{IsUp}
use Rattle.store_tables.specs.Stored.{content_of, with_roster}
use Rattle.store_tables.proofs.ArriveLemmas.{Ends}
use Rattle.store_schema.specs.Migratable.{IsMigratable}
use Rattle.store_schema.proofs.EndLemmas.{commit_does, commit_ends, commit_up, whole_survives}
use Rattle.store_opening.specs.Opened.{IsKept}
use Rattle.store_migration.specs.Migrated.{GainsVerdicts, KeepsOthers, Migrates, MigratesAt}
use Rattle.store_migration.proofs.MoveLemmas.{migrates_again}
use Rattle.store_migration.proofs.commit.migrate.Goals as goal

pub returns : goal.returns
returns g c =
    let roster = c.args.roster.now in
    let old = state g.S.Store c.args.conn.now in
    let last = state g.S.Store c.move_within.new.tx.conn.now in
    let end = state g.S.Store c.commit.new.self.0 in
    let begun = c.transaction-tx.ensures.begun in
    let step = rw begun at c.move_within.ensures.step.states in
    let moved = λ (clean : HasCleanDisk last). (rw begun at c.in_ok-move_within.ensures.moved) clean refl in
    let can : IsTrue c.can_migrate.result = search rules in
    let may : IsMigratable old.now.schema = c.can_migrate.ensures.0 can in
    let mode = λ (clean : HasCleanDisk last). (moved clean).mode in
    let does = λ (up : IsUp old) (clean : HasCleanDisk last). (moved clean).migrates (c.requires.desk up) may (c.requires.listed up) in
    let ok = λ (clean : HasCleanDisk end). let it = c.in_ok-commit.ensures.ok clean in
    let both : IsTrue last.in_transaction × Shows last end last.now last.now false = (it.0, it.1) in
    both in
    let ends =
    commit_ends (Migrates roster old.now) (migrates_again roster old.now) old last end c.requires.rests step _ c.commit.ensures.survives mode does ok in
    let whole =
    commit_does (Migrates roster old.now) (migrates_again roster old.now) old last end c.requires.rests step _ c.commit.ensures.survives mode does ok in
    let same : c.commit.new.self.0 ≡ c.conn-2-1.given.0 = search rules in
    let all = subst (λ h. Ends old (state g.S.Store h)) same ends in
    record {
      rests = all.rests;
      was_up = all.was_up;
      was_clean = all.was_clean;
      up = subst (λ h. HasCleanDisk (state g.S.Store h) → IsUp (state g.S.Store h)) same
          (commit_up (Migrates roster old.now) (migrates_again roster old.now) old last end c.requires.rests step _ c.commit.ensures.survives mode does ok);
      kept = subst (λ h. IsUp (state g.S.Store h) → IsKept (state g.S.Store h).now) same (λ up. (whole up).kept);
      migrated =
          subst (λ h. IsUp (state g.S.Store h) → content_of (state g.S.Store h).now ≡ with_roster roster (content_of old.now)) same (λ up. (whole up).content);
      grown = subst (λ h. IsUp (state g.S.Store h) → GainsVerdicts old.now (state g.S.Store h).now) same (λ up. (whole up).grown);
      others = subst (λ h. IsUp (state g.S.Store h) → KeepsOthers old.now (state g.S.Store h).now) same (λ up. (whole up).others);
      refused = λ unfit. absurd (unfit may);
      unchanged = λ up. tt;
      survives = subst (λ h. Survives old (state g.S.Store h) (λ trees. IsUp old × MigratesAt roster old.now trees)) same
          (whole_survives (Migrates roster old.now) (migrates_again roster old.now) old last end c.requires.rests step _ c.commit.ensures.survives mode does
          (λ clean. (moved clean).was_open) (λ db is. is));
    }

pub returns-in_err-commit-clause-survives : goal.returns-in_err-commit-clause-survives
returns-in_err-commit-clause-survives g c =
    let roster = c.args.roster.now in
    let old = state g.S.Store c.args.conn.now in
    let last = state g.S.Store c.move_within.new.tx.conn.now in
    let end = state g.S.Store c.commit.new.self.0 in
    let begun = c.transaction-tx.ensures.begun in
    let step = rw begun at c.move_within.ensures.step.states in
    let moved = λ (clean : HasCleanDisk last). (rw begun at c.in_ok-move_within.ensures.moved) clean refl in
    let can : IsTrue c.can_migrate.result = search rules in
    let may : IsMigratable old.now.schema = c.can_migrate.ensures.0 can in
    let mode = λ (clean : HasCleanDisk last). (moved clean).mode in
    let does = λ (is_up : IsUp old) (clean : HasCleanDisk last). (moved clean).migrates (c.requires.desk is_up) may (c.requires.listed is_up) in
    let same : c.commit.new.self.0 ≡ c.conn-2-1.given.0 = search rules in
    subst (λ h. Survives old (state g.S.Store h) (λ trees. IsUp old × MigratesAt roster old.now trees)) same (whole_survives (Migrates roster old.now)
    (migrates_again roster old.now) old last end c.requires.rests step _ c.commit.ensures.survives mode does (λ clean. (moved clean).was_open) (λ db is. is))
