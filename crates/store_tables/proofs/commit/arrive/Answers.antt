use Rattle.std.proofs.lemmas.Result.{err_from_is_err_and}
use Rattle.std.proofs.Common.{rules, ◌≡◌, false, true, IsTrue, refl, subst, sym}
use Rattle.sqlite.specs.State.{HasCleanDisk, Shows, Survives}
use Rattle.sqlite.specs.Held.{state}
use Rattle.store_tables.specs.Arrivals.{IsTold}
use Rattle.store_tables.specs.Stored.{content_of, has, with_text}
use Rattle.store_tables.specs.Kept.{IsDeskDatabase, Spares}
use Rattle.store_tables.specs.SqliteStates.{IsUp}
use Rattle.store_tables.specs.Committed.{ArrivesAt}
use Rattle.store_tables.specs.Causes.{IsExplained}
use Rattle.store_tables.specs.declared.fault.Fault.TheVariants as fault
use Rattle.store_tables.proofs.TurnLemmas.{clean_before}
use Rattle.store_tables.proofs.CauseLemmas.{explained_commit, explained_ended}
use Rattle.store_tables.proofs.ArriveLemmas.{Ends, arrive_survives, commit_arrived, commit_desk, commit_ends, commit_repeated}
use Rattle.store_tables.proofs.ArriveLemmas.{commit_spared, commit_told, commit_up}
use Rattle.store_tables.proofs.commit.arrive.Goals as goal

pub returns : goal.returns
returns g c =
    let text = c.args.body.now in
    let old = state g.S.Store c.args.conn.now in
    let last = state g.S.Store c.receive.new.tx.conn.now in
    let end = state g.S.Store c.commit.new.self.0 in
    let begun = c.transaction-tx.ensures.begun in
    let step = rw begun at c.receive.ensures.step.states in
    let received = λ (clean : HasCleanDisk last). (rw begun at c.in_ok-arrival.ensures.received) clean refl in
    let told = λ (clean : HasCleanDisk last). (rw begun at c.in_ok-arrival.ensures.told) clean refl in
    let ok = λ (clean : HasCleanDisk end). let it = c.in_ok-commit.ensures.ok clean in
    let both : IsTrue last.in_transaction × Shows last end last.now last.now false = (it.0, it.1) in
    both in
    let ends = commit_ends text old last end c.requires.rests step _ c.commit.ensures.survives received c.requires.desk c.obeys.ensures ok in
    let same : c.commit.new.self.0 ≡ c.conn-2-1.given.0 = search rules in
    let all = subst (λ h. Ends old (state g.S.Store h)) same ends in
    record {
      rests = all.rests;
      was_up = all.was_up;
      was_clean = all.was_clean;
      up = subst (λ h. HasCleanDisk (state g.S.Store h) → IsUp (state g.S.Store h)) same
          (commit_up text old last end c.requires.rests step _ c.commit.ensures.survives received c.requires.desk c.obeys.ensures ok);
      desk = subst (λ h. IsUp (state g.S.Store h) → IsDeskDatabase (state g.S.Store h).now) same
          (commit_desk text old last end c.requires.rests step _ c.commit.ensures.survives received c.requires.desk c.obeys.ensures ok);
      arrived = subst (λ h. IsUp (state g.S.Store h) → content_of (state g.S.Store h).now ≡ with_text text (content_of old.now)) same
          (commit_arrived text old last end c.requires.rests step _ c.commit.ensures.survives received c.requires.desk c.obeys.ensures ok);
      told = subst (λ h. IsUp (state g.S.Store h) → IsTold (has (content_of old.now) text ≡ true) c.in_ok-arrival.arrival) same
          (commit_told text old last end c.requires.rests step _ c.commit.ensures.survives received c.requires.desk c.obeys.ensures ok
          c.in_ok-arrival.arrival told);
      repeated = λ up there. subst (λ h. IsUp (state g.S.Store h) → (state g.S.Store h).now ≡ old.now) same (λ still.
          commit_repeated text old last end c.requires.rests step _ c.commit.ensures.survives received c.requires.desk c.obeys.ensures ok still there) up;
      others = subst (λ h. IsUp (state g.S.Store h) → Spares old.now (state g.S.Store h).now) same
          (commit_spared text old last end c.requires.rests step _ c.commit.ensures.survives received c.requires.desk c.obeys.ensures ok);
      unchanged = λ up. tt;
      explained = λ up clean there. tt;
      survives = subst (λ h. Survives old (state g.S.Store h) (λ trees. IsUp old × ArrivesAt text old.now trees)) same
          (arrive_survives text old last end c.requires.rests step _ c.commit.ensures.survives received c.requires.desk c.obeys.ensures (λ db is. is));
    }

pub returns-in_err-commit-clause-survives : goal.returns-in_err-commit-clause-survives
returns-in_err-commit-clause-survives g c =
    let text = c.args.body.now in
    let old = state g.S.Store c.args.conn.now in
    let last = state g.S.Store c.receive.new.tx.conn.now in
    let end = state g.S.Store c.commit.new.self.0 in
    let begun = c.transaction-tx.ensures.begun in
    let step = rw begun at c.receive.ensures.step.states in
    let received = λ (clean : HasCleanDisk last). (rw begun at c.in_ok-arrival.ensures.received) clean refl in
    let same : c.commit.new.self.0 ≡ c.conn-2-1.given.0 = search rules in
    subst (λ h. Survives old (state g.S.Store h) (λ trees. IsUp old × ArrivesAt text old.now trees)) same
    (arrive_survives text old last end c.requires.rests step _ c.commit.ensures.survives received c.requires.desk c.obeys.ensures (λ db is. is))

pub returns-in_err-arrival-clause-explained : goal.returns-in_err-arrival-clause-explained
returns-in_err-arrival-clause-explained g c up clean there =
    let p = err_from_is_err_and c.from_residual.result c.from_residual.ensures.1 in
    let old = state g.S.Store c.args.conn.now in
    let last = state g.S.Store c.receive.new.tx.conn.now in
    let end = state g.S.Store c.drop-tx.new.self.0 in
    let begun = c.transaction-tx.ensures.begun in
    let same : c.drop-tx.new.self.0 ≡ c.conn-1.given.0 = search rules in
    let clean_end = subst (λ h. HasCleanDisk (state g.S.Store h)) (sym same) clean in
    let clean_last = clean_before last end _ c.drop-tx.ensures.survives clean_end in
    let why = (rw begun at c.in_err-arrival.ensures.explained) clean_last refl up.is_open (c.requires.desk up) there in
    rw (p.1, p.2) (subst (λ h. IsExplained old (state g.S.Store h) c.in_err-arrival.field-0.0) same
    (explained_ended old last end _ c.drop-tx.ensures.survives c.in_err-arrival.field-0.0 why))

pub returns-in_err-commit-clause-explained : goal.returns-in_err-commit-clause-explained
returns-in_err-commit-clause-explained g c up clean there =
    let p = err_from_is_err_and c.from_residual-in_err-commit.result c.from_residual-in_err-commit.ensures.1 in
    let old = state g.S.Store c.args.conn.now in
    let last = state g.S.Store c.receive.new.tx.conn.now in
    let end = state g.S.Store c.commit.new.self.0 in
    let begun = c.transaction-tx.ensures.begun in
    let same : c.commit.new.self.0 ≡ c.conn-2-1.given.0 = search rules in
    let clean_end = subst (λ h. HasCleanDisk (state g.S.Store h)) (sym same) clean in
    let clean_last = clean_before last end _ c.commit.ensures.survives clean_end in
    let step = rw begun at c.receive.ensures.step.states in
    let received = (rw begun at c.in_ok-arrival.ensures.received) clean_last refl in
    rw (p.1, p.2) (subst (λ h. IsExplained old (state g.S.Store h) (fault.Database c.in_err-commit.field-0.0)) same
    (explained_commit old last end _ c.commit.ensures.survives step c.in_err-commit.field-0.0 up clean_last received.mode
    (c.in_err-commit.ensures.err clean_end)))
