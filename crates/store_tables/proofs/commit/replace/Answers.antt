use Rattle.std.proofs.Common.{rules, ◌≡◌, false, IsTrue, refl, subst}
use Rattle.sqlite.specs.State.{HasCleanDisk, Shows, Survives}
use Rattle.sqlite.specs.Held.{state}
use Rattle.store_tables.specs.Stored.{content_of, with_roster}
use Rattle.store_tables.specs.Kept.{IsDeskDatabase, Spares}
use Rattle.store_tables.specs.SqliteStates.{IsUp}
use Rattle.store_tables.specs.Committed.{ChangesAt}
use Rattle.store_tables.proofs.ArriveLemmas.{Ends}
use Rattle.store_tables.proofs.ReplaceLemmas.{replace_survives, commit_replaced, commit_desk, commit_ends, commit_spared, commit_up}
use Rattle.store_tables.proofs.commit.replace.Goals as goal

pub returns : goal.returns
returns g c =
    let roster = c.args.roster.now in
    let old = state g.S.Store c.args.conn.now in
    let last = state g.S.Store c.record.new.tx.conn.now in
    let end = state g.S.Store c.commit.new.self.0 in
    let begun = c.transaction-tx.ensures.begun in
    let step = rw begun at c.record.ensures.step.states in
    let received = λ (clean : HasCleanDisk last). (rw begun at c.in_ok-record.ensures.recorded) clean refl in
    let ok = λ (clean : HasCleanDisk end). let it = c.in_ok-commit.ensures.ok clean in
    let both : IsTrue last.in_transaction × Shows last end last.now last.now false = (it.0, it.1) in
    both in
    let ends =
    commit_ends roster old last end c.requires.rests step _ c.commit.ensures.survives c.utf8.roster received c.requires.desk ok in
    let same : c.commit.new.self.0 ≡ c.conn-2-1.given.0 = search rules in
    let all = subst (λ h. Ends old (state g.S.Store h)) same ends in
    record {
      rests = all.rests;
      was_up = all.was_up;
      was_clean = all.was_clean;
      up = subst (λ h. HasCleanDisk (state g.S.Store h) → IsUp (state g.S.Store h)) same
          (commit_up roster old last end c.requires.rests step _ c.commit.ensures.survives c.utf8.roster received c.requires.desk ok);
      desk = subst (λ h. IsUp (state g.S.Store h) → IsDeskDatabase (state g.S.Store h).now) same
          (commit_desk roster old last end c.requires.rests step _ c.commit.ensures.survives c.utf8.roster received c.requires.desk ok);
      replaced =
          subst (λ h. IsUp (state g.S.Store h) → content_of (state g.S.Store h).now ≡ with_roster roster (content_of old.now)) same (commit_replaced roster
          old last end c.requires.rests step _ c.commit.ensures.survives c.utf8.roster received c.requires.desk ok);
      others = subst (λ h. IsUp (state g.S.Store h) → Spares old.now (state g.S.Store h).now) same (commit_spared roster old last
          end c.requires.rests step _ c.commit.ensures.survives c.utf8.roster received c.requires.desk ok);
      unchanged = λ up. tt;
      survives = subst (λ h. Survives old (state g.S.Store h) (λ trees. IsUp old × ChangesAt roster old.now trees)) same (replace_survives roster old last end
          c.requires.rests step _ c.commit.ensures.survives c.utf8.roster received c.requires.desk (λ db is. is));
    }

pub returns-in_err-commit-clause-survives : goal.returns-in_err-commit-clause-survives
returns-in_err-commit-clause-survives g c =
    let roster = c.args.roster.now in
    let old = state g.S.Store c.args.conn.now in
    let last = state g.S.Store c.record.new.tx.conn.now in
    let end = state g.S.Store c.commit.new.self.0 in
    let begun = c.transaction-tx.ensures.begun in
    let step = rw begun at c.record.ensures.step.states in
    let received = λ (clean : HasCleanDisk last). (rw begun at c.in_ok-record.ensures.recorded) clean refl in
    let same : c.commit.new.self.0 ≡ c.conn-2-1.given.0 = search rules in
    subst (λ h. Survives old (state g.S.Store h) (λ trees. IsUp old × ChangesAt roster old.now trees)) same (replace_survives roster old last end
    c.requires.rests step _ c.commit.ensures.survives c.utf8.roster received c.requires.desk (λ db is. is))
