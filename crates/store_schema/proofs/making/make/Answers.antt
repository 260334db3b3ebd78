use Rattle.std.proofs.Common.{rules, ◌≡◌, refl, subst}
use Rattle.sqlite.specs.State.{HasCleanDisk, Survives}
use Rattle.sqlite.specs.Held.{state}
use Rattle.store_tables.specs.SqliteStates.{IsUp}
use Rattle.store_schema.specs.Founding.{Founds, FoundsAt}
use Rattle.store_schema.proofs.EndLemmas.{whole_survives}
use Rattle.store_schema.proofs.MadeLemmas.{founds_again}
use Rattle.store_schema.proofs.making.make.Goals as goal

-- the commit alone can leave more, and it leaves the whole desk
pub returns-clause-survives : goal.returns-clause-survives
returns-clause-survives g c =
    let roster = c.args.roster.now in
    let old = state g.S.Store c.args.conn.now in
    let last = state g.S.Store c.fill.new.tx.conn.now in
    let end = state g.S.Store c.commit.new.self.0 in
    let begun = c.transaction-tx.ensures.begun in
    let step = rw begun at c.fill.ensures.step.states in
    let filled = λ (clean : HasCleanDisk last). (rw begun at c.in_ok-fill.ensures.filled) clean refl in
    let same : c.commit.new.self.0 ≡ c.conn-2-1.given.0 = search rules in
    subst (λ h. Survives old (state g.S.Store h) (λ trees. IsUp old × FoundsAt roster old.now trees)) same
    (whole_survives (Founds roster old.now) (founds_again roster old.now) old last end c.requires.rests step _ c.commit.ensures.survives
    (λ clean. (filled clean).mode) (λ is_up clean. (filled clean).founds (c.requires.ready is_up)) (λ clean. (filled clean).was_open) (λ db is. is))
