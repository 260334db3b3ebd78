use Rattle.std.proofs.Common.{◌≡◌, ◌∙◌, ◌∷◌, IfErr, ap, subst, sym}
use Rattle.desk_store.specs.Serving.{IsServed}
use Rattle.desk_store.proofs.ServingLemmas.{served_then}
use Rattle.desk_commands.specs.Kept.{kept}
use Rattle.desk_commands.specs.private.Outcomes.{IsLeft, IsOutcome, ShowsWantIn}
use Rattle.desk_commands.proofs.OverLemmas.{delivered, undelivered}
use Rattle.desk_args.specs.declared.task.Job.TheVariants.{Deliver}
use Rattle.desk_commands.proofs.LeavingLemmas.{left_delivered}
use Rattle.desk_commands.specs.private.Outcomes.{LivesAfter}
use Rattle.desk_commands.proofs.LivingLemmas.{lives_then}
use Rattle.desk_commands.proofs.delivering.deliver_over.Goals as goal

pub returns-in-Ok-clause-outcome : goal.returns-in-Ok-clause-outcome
returns-in-Ok-clause-outcome g c places more err =
    let K = g.K.Keeper in
    let desk = c.in-Ok.desk in
    let asked = c.deliver_to-answer in
    let after = asked.new.desk.keeper in
    let input = g.R.Read.remaining c.args.input.now in
    let same : c.into_keeper.result ≡ after = c.into_keeper.ensures.same in
    let keeps = subst (λ y. K.is_up y → K.is_desk y × (K.roster y ≡ c.args.roster.now)) same (λ up. (
      c.into_keeper.ensures.desk up,
      c.into_keeper.ensures.roster up ∙ ap (λ r. r.text) asked.ensures.roster ∙ c.in-Ok.ensures.recorded,
    )) in
    subst (λ y. IsOutcome (Deliver places c.args.relay.now) (c.args.roster.now ∷ c.args.base.now ∷ more)
    (kept K.is_up K.is_empty K.is_desk K.is_old K.roster K.holds K.failures c.args.keeper y) input asked.result err err) (sym same)
    (delivered K.is_up K.is_empty K.is_desk K.is_old K.roster K.holds K.failures c.args.keeper desk.keeper after c.args.roster.now c.args.base.now
    desk.roster.says desk.base c.in-Ok.ensures.found keeps asked.ensures.served.was_up c.in-Ok.ensures.opens c.in-Ok.ensures.served.counts more input
    places c.args.relay.now asked.result err asked.ensures.found asked.ensures.err)

pub returns-in-Ok-clause-served : goal.returns-in-Ok-clause-served
returns-in-Ok-clause-served g c =
    let K = g.K.Keeper in
    let keeper = c.args.keeper in
    subst (λ y. IsServed K.is_up K.is_clean K.failures K.beside keeper y ⊥ (ShowsWantIn c.deliver_to-answer.result)) (sym c.into_keeper.ensures.same)
    (served_then (λ none. absurd none) c.in-Ok.ensures.served c.deliver_to-answer.ensures.served)

pub returns-in-Err-clause-outcome : goal.returns-in-Err-clause-outcome
returns-in-Err-clause-outcome g c places more err =
    undelivered c.args.roster.now c.args.base.now _ more (g.R.Read.remaining c.args.input.now) err c.in-Err.refusal places c.args.relay.now c.in-Err.ensures.err

pub returns-in-Ok-clause-left : goal.returns-in-Ok-clause-left
returns-in-Ok-clause-left g c places more err =
    let K = g.K.Keeper in
    let desk = c.in-Ok.desk in
    let asked = c.deliver_to-answer in
    let after = asked.new.desk.keeper in
    let input = g.R.Read.remaining c.args.input.now in
    let same : c.into_keeper.result ≡ after = c.into_keeper.ensures.same in
    let is_kept = subst (λ y. K.is_up y → K.is_desk y × (K.roster y ≡ c.args.roster.now)) same (λ up. (
      c.into_keeper.ensures.desk up,
      c.into_keeper.ensures.roster up ∙ ap (λ r. r.text) asked.ensures.roster ∙ c.in-Ok.ensures.recorded,
    )) in
    subst (λ y. IfErr asked.result (λ _. IsLeft (Deliver places c.args.relay.now) (c.args.roster.now ∷ c.args.base.now ∷ more)
    (kept K.is_up K.is_empty K.is_desk K.is_old K.roster K.holds K.failures c.args.keeper y) (K.is_same c.args.keeper y) input err err)) (sym same)
    (left_delivered K.is_up K.is_empty K.is_desk K.is_old K.roster K.holds K.failures c.args.keeper desk.keeper after c.args.roster.now c.args.base.now
    desk.roster.says desk.base c.in-Ok.ensures.found is_kept asked.ensures.served.was_up c.in-Ok.ensures.opens c.in-Ok.ensures.was more input
    (K.is_same c.args.keeper after) places c.args.relay.now asked.result err asked.ensures.left)

pub returns-in-Ok-clause-live : goal.returns-in-Ok-clause-live
returns-in-Ok-clause-live g c =
    let K = g.K.Keeper in
    let asked = c.deliver_to-answer in
    subst (λ y. LivesAfter K y (ShowsWantIn asked.result) asked.result) (sym c.into_keeper.ensures.same)
    (lives_then K c.in-Ok.desk.keeper asked.new.desk.keeper (ShowsWantIn asked.result) asked.result c.in-Ok.ensures.live
    asked.ensures.served.was_clean asked.ensures.served.up)
