use Rattle.std.proofs.Common.{◌≡◌, ◌∙◌, ◌∷◌, IfErr, ap, subst, sym}
use Rattle.std.specs.Prelude.{IsErrAnd}
use Rattle.desk_store.specs.Serving.{IsServed}
use Rattle.desk_store.proofs.ServingLemmas.{served_then}
use Rattle.desk_commands.specs.Kept.{kept}
use Rattle.desk_commands.specs.Wanting.{IsWanting}
use Rattle.desk_commands.specs.private.Outcomes.{IsLeft, IsOutcome}
use Rattle.desk_commands.proofs.OverLemmas.{reviewed, unreviewed}
use Rattle.desk_args.specs.declared.task.Job.TheVariants.{Review}
use Rattle.desk_commands.proofs.LeavingLemmas.{left_reviewed}
use Rattle.desk_commands.specs.private.Outcomes.{LivesAfter}
use Rattle.desk_commands.proofs.LivingLemmas.{lives_then}
use Rattle.desk_commands.proofs.reviewing.review_over.Goals as goal

pub returns-in-Ok-clause-outcome : goal.returns-in-Ok-clause-outcome
returns-in-Ok-clause-outcome g c more =
    let K = g.K.Keeper in
    let desk = c.in-Ok.desk in
    let asked = c.review_of-answer in
    let after = asked.new.desk.keeper in
    let input = g.R.Read.remaining c.args.input.now in
    let same : c.into_keeper.result ≡ after = c.into_keeper.ensures.same in
    let keeps = subst (λ y. K.is_up y → K.is_desk y × (K.roster y ≡ c.args.roster.now)) same (λ up. (
      c.into_keeper.ensures.desk up,
      c.into_keeper.ensures.roster up ∙ ap (λ r. r.text) asked.ensures.roster ∙ c.in-Ok.ensures.recorded,
    )) in
    subst (λ y. IsOutcome (Review c.args.places.now c.args.at) (c.args.roster.now ∷ c.args.base.now ∷ more) (kept K.is_up K.is_empty K.is_desk K.is_old
    K.roster K.holds K.failures c.args.keeper y) input asked.result (g.E.Write.contents c.args.err.now) (g.E.Write.contents asked.new.err)) (sym same)
    (reviewed K.is_up K.is_empty K.is_desk K.is_old K.roster K.holds K.failures c.args.keeper desk.keeper after c.args.roster.now c.args.base.now
    desk.roster.says desk.base c.in-Ok.ensures.found keeps asked.ensures.served.was_up c.in-Ok.ensures.opens c.in-Ok.ensures.served.counts more input
    c.args.places.now c.args.at asked.result (g.E.Write.contents c.args.err.now) (g.E.Write.contents asked.new.err) asked.ensures.found asked.ensures.cause)

pub returns-in-Ok-clause-served : goal.returns-in-Ok-clause-served
returns-in-Ok-clause-served g c =
    let K = g.K.Keeper in
    let keeper = c.args.keeper in
    subst (λ y. IsServed K.is_up K.is_clean K.failures K.beside keeper y ⊥ (IsErrAnd c.review_of-answer.result IsWanting)) (sym c.into_keeper.ensures.same)
    (served_then (λ none. absurd none) c.in-Ok.ensures.served c.review_of-answer.ensures.served)

pub returns-in-Err-clause-outcome : goal.returns-in-Err-clause-outcome
returns-in-Err-clause-outcome g c more =
    unreviewed c.args.roster.now c.args.base.now _ more (g.R.Read.remaining c.args.input.now)
    (g.E.Write.contents c.args.err.now) c.in-Err.refusal c.args.places.now c.args.at c.in-Err.ensures.err

pub returns-in-Ok-clause-left : goal.returns-in-Ok-clause-left
returns-in-Ok-clause-left g c more =
    let K = g.K.Keeper in
    let desk = c.in-Ok.desk in
    let asked = c.review_of-answer in
    let after = asked.new.desk.keeper in
    let input = g.R.Read.remaining c.args.input.now in
    let same : c.into_keeper.result ≡ after = c.into_keeper.ensures.same in
    let is_kept = subst (λ y. K.is_up y → K.is_desk y × (K.roster y ≡ c.args.roster.now)) same (λ up. (
      c.into_keeper.ensures.desk up,
      c.into_keeper.ensures.roster up ∙ ap (λ r. r.text) asked.ensures.roster ∙ c.in-Ok.ensures.recorded,
    )) in
    subst (λ y. IfErr asked.result
    (λ _. IsLeft (Review c.args.places.now c.args.at) (c.args.roster.now ∷ c.args.base.now ∷ more) (kept K.is_up K.is_empty K.is_desk K.is_old K.roster
    K.holds K.failures c.args.keeper y) (K.is_same c.args.keeper y) input (g.E.Write.contents c.args.err.now) (g.E.Write.contents asked.new.err))) (sym same)
    (left_reviewed K.is_up K.is_empty K.is_desk K.is_old K.roster K.holds K.failures c.args.keeper desk.keeper after c.args.roster.now c.args.base.now
    desk.roster.says desk.base c.in-Ok.ensures.found is_kept asked.ensures.served.was_up c.in-Ok.ensures.opens c.in-Ok.ensures.was more input
    (K.is_same c.args.keeper after) c.args.places.now c.args.at asked.result (g.E.Write.contents c.args.err.now)
    (g.E.Write.contents asked.new.err) asked.ensures.left asked.ensures.said)

pub returns-in-Ok-clause-live : goal.returns-in-Ok-clause-live
returns-in-Ok-clause-live g c =
    let K = g.K.Keeper in
    let asked = c.review_of-answer in
    subst (λ y. LivesAfter K y (IsErrAnd asked.result IsWanting) asked.result) (sym c.into_keeper.ensures.same)
    (lives_then K c.in-Ok.desk.keeper asked.new.desk.keeper (IsErrAnd asked.result IsWanting) asked.result c.in-Ok.ensures.live
    asked.ensures.served.was_clean asked.ensures.served.up)
