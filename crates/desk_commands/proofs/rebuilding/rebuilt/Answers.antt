use Rattle.std.proofs.Common.{◌≡◌, ◌⊎◌, ◌∙◌, ◌∷◌, Ok, inr, subst, sym}
use Rattle.desk_store.specs.Serving.{IsServed}
use Rattle.desk_commands.specs.Kept.{kept}
use Rattle.desk_commands.specs.private.Outcomes.{IsOutcome}
use Rattle.desk_commands.proofs.OverLemmas.{rebuilt, unrebuilt}
use Rattle.desk_args.specs.declared.task.Job.TheVariants.{Rebuild}
use Rattle.desk_commands.proofs.rebuilding.rebuilt.Goals as goal

pub returns-in-Ok-rebuild_over-clause-outcome : goal.returns-in-Ok-rebuild_over-clause-outcome
returns-in-Ok-rebuild_over-clause-outcome g c places more input err =
    let K = g.K.Keeper in
    let desk = c.in-Ok-rebuild_over.desk in
    let same : c.into_keeper.result ≡ desk.keeper = c.into_keeper.ensures.same in
    let keeps = subst (λ y. K.is_up y → K.is_desk y × (K.roster y ≡ c.args.roster.now)) same (λ up. (
      c.into_keeper.ensures.desk up,
      c.into_keeper.ensures.roster up ∙ c.in-Ok-rebuild_over.ensures.recorded,
    )) in
    subst (λ y. IsOutcome (Rebuild places) (c.args.roster.now ∷ c.args.base.now ∷ more)
    (kept K.is_up K.is_empty K.is_desk K.is_old K.roster K.holds K.failures c.args.keeper y) input (Ok c.in-Ok.answer) err err) (sym same) (rebuilt K.is_up
    K.is_empty K.is_desk K.is_old K.roster K.holds K.failures c.args.keeper desk.keeper c.args.roster.now c.args.base.now desk.roster.says desk.base
    c.in-Ok-rebuild_over.ensures.found keeps c.in-Ok-rebuild_over.ensures.keeps more input places c.in-Ok.answer err c.in-Ok.ensures.0 c.in-Ok.ensures.1)

pub returns-in-Ok-rebuild_over-clause-served : goal.returns-in-Ok-rebuild_over-clause-served
returns-in-Ok-rebuild_over-clause-served g c =
    let K = g.K.Keeper in
    let keeper = c.args.keeper in
    subst (λ y. IsServed K.is_up K.is_clean K.failures K.beside keeper y ⊥ ⊥) (sym c.into_keeper.ensures.same)
    c.in-Ok-rebuild_over.ensures.served

pub returns-in-Err-clause-outcome : goal.returns-in-Err-clause-outcome
returns-in-Err-clause-outcome g c places more input err =
    unrebuilt c.args.roster.now c.args.base.now _ more input err c.in-Err.refusal places c.in-Err.ensures.err

pub returns-in-Ok-rebuild_over-clause-live : goal.returns-in-Ok-rebuild_over-clause-live
returns-in-Ok-rebuild_over-clause-live g c =
    let K = g.K.Keeper in
    subst (λ y. K.is_clean y → ⊥ ⊎ K.is_up y) (sym c.into_keeper.ensures.same) (λ clean. inr (c.in-Ok-rebuild_over.ensures.live clean))
