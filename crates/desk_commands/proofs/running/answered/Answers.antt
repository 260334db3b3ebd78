use Rattle.std.proofs.Common.{◌≡◌, ◌∙◌, ap, map, refl, subst, sym}
use Rattle.std.proofs.lemmas.Result.{IfOk-weaker}
use Rattle.desk_commands.specs.Answers.{IsOnDesk, ReadsInput}
use Rattle.desk_args.specs.declared.task.Job.TheVariants.{Deliver}
use Rattle.desk_commands.proofs.AnswerLemmas.{of_job, quietly}
use Rattle.desk_commands.proofs.LeavingLemmas.{if_err, left_of_job, same_job}
use Rattle.desk_store.proofs.ServingLemmas.{served_as}
use Rattle.desk_commands.proofs.WantLemmas.{wants_delivered, wants_refused}
use Rattle.desk_commands.proofs.LivingLemmas.{lives_as}
use Rattle.desk_commands.proofs.running.answered.Goals as goal

pub returns-in-Check-clause-outcome : goal.returns-in-Check-clause-outcome
returns-in-Check-clause-outcome g c =
    quietly c.check_first.result c.args.job.now _ (map (λ f. f.items) c.args.files.now) _
    (g.R.Read.remaining c.args.input.now) (g.E.Write.contents c.args.err.now) c.in-Check.is
    (IfOk-weaker c.check_first.result _ _ (λ a is. (is, refl)) c.check_first.ensures.found) c.check_first.ensures.cause

pub returns-in-Decide-clause-outcome : goal.returns-in-Decide-clause-outcome
returns-in-Decide-clause-outcome g c =
    quietly c.decide_by_first.result c.args.job.now _ (map (λ f. f.items) c.args.files.now) _
    (g.R.Read.remaining c.args.input.now) (g.E.Write.contents c.args.err.now) c.in-Decide.is
    (IfOk-weaker c.decide_by_first.result _ _ (λ a is. (is, refl)) c.decide_by_first.ensures.found) c.decide_by_first.ensures.cause

pub returns-in-Beyond-clause-outcome : goal.returns-in-Beyond-clause-outcome
returns-in-Beyond-clause-outcome g c =
    quietly c.compared.result c.args.job.now _ (map (λ f. f.items) c.args.files.now) _ (g.R.Read.remaining c.args.input.now) (g.E.Write.contents c.args.err.now)
    c.in-Beyond.is (IfOk-weaker c.compared.result _ _ (λ a is. (is, refl)) c.compared.ensures.found) c.compared.ensures.cause

pub returns-in-Deliver-clause-outcome : goal.returns-in-Deliver-clause-outcome
returns-in-Deliver-clause-outcome g c =
    let places = c.in-Deliver.places in
    let err = g.E.Write.contents c.args.err.now in
    let is : c.args.job.now ≡ Deliver places c.as_str.result.now = c.in-Deliver.is ∙ ap (Deliver places) (sym c.as_str.ensures) in
    of_job c.deliver_lines.result.0 c.args.job.now _ (map (λ f. f.items) c.args.files.now) _
    (g.R.Read.remaining c.args.input.now) err err is (c.deliver_lines.ensures.outcome places err)

pub returns-in-Print-clause-outcome : goal.returns-in-Print-clause-outcome
returns-in-Print-clause-outcome g c =
    of_job c.print_host.result.0 c.args.job.now _ (map (λ f. f.items) c.args.files.now) _ (g.R.Read.remaining c.args.input.now)
    (g.E.Write.contents c.args.err.now) (g.E.Write.contents c.print_host.new.err) c.in-Print.is c.print_host.ensures.outcome

pub returns-in-Review-clause-outcome : goal.returns-in-Review-clause-outcome
returns-in-Review-clause-outcome g c =
    of_job c.review_desk.result.0 c.args.job.now _ (map (λ f. f.items) c.args.files.now) _ (g.R.Read.remaining c.args.input.now)
    (g.E.Write.contents c.args.err.now) (g.E.Write.contents c.review_desk.new.err) c.in-Review.is c.review_desk.ensures.outcome

pub returns-in-Rebuild-clause-outcome : goal.returns-in-Rebuild-clause-outcome
returns-in-Rebuild-clause-outcome g c =
    let input = g.R.Read.remaining c.args.input.now in
    let err = g.E.Write.contents c.args.err.now in
    of_job c.rebuild_desk.result.0 c.args.job.now _ (map (λ f. f.items) c.args.files.now) _ input err err c.in-Rebuild.is
    (c.rebuild_desk.ensures.outcome c.in-Rebuild.places input err)

pub returns-in-Deliver-clause-unasked : goal.returns-in-Deliver-clause-unasked
returns-in-Deliver-clause-unasked g c = λ never. absurd (never (subst IsOnDesk (sym c.in-Deliver.is) tt))

pub returns-in-Print-clause-unasked : goal.returns-in-Print-clause-unasked
returns-in-Print-clause-unasked g c = λ never. absurd (never (subst IsOnDesk (sym c.in-Print.is) tt))

pub returns-in-Review-clause-unasked : goal.returns-in-Review-clause-unasked
returns-in-Review-clause-unasked g c = λ never. absurd (never (subst IsOnDesk (sym c.in-Review.is) tt))

pub returns-in-Rebuild-clause-unasked : goal.returns-in-Rebuild-clause-unasked
returns-in-Rebuild-clause-unasked g c = λ never. absurd (never (subst IsOnDesk (sym c.in-Rebuild.is) tt))

pub returns-in-Deliver-clause-unread : goal.returns-in-Deliver-clause-unread
returns-in-Deliver-clause-unread g c = λ never. absurd (never (subst ReadsInput (sym c.in-Deliver.is) tt))

pub returns-in-Print-clause-unread : goal.returns-in-Print-clause-unread
returns-in-Print-clause-unread g c = λ never. c.print_host.ensures.unread (λ memory. never (subst ReadsInput (sym c.in-Print.is) memory))

pub returns-in-Review-clause-unread : goal.returns-in-Review-clause-unread
returns-in-Review-clause-unread g c = λ never. c.review_desk.ensures.unread (λ memory. never (subst ReadsInput (sym c.in-Review.is) memory))

pub returns-in-Check-clause-left : goal.returns-in-Check-clause-left
returns-in-Check-clause-left g c =
    if_err c.check_first.result (same_job (map (λ f. f.items) c.args.files.now) _ _ (g.R.Read.remaining c.args.input.now) (g.E.Write.contents c.args.err.now)
    (λ _. g.met.K.Keeper.same_itself c.args.keeper) c.args.job.now)

pub returns-in-Decide-clause-left : goal.returns-in-Decide-clause-left
returns-in-Decide-clause-left g c =
    if_err c.decide_by_first.result (same_job (map (λ f. f.items) c.args.files.now) _ _ (g.R.Read.remaining c.args.input.now)
    (g.E.Write.contents c.args.err.now) (λ _. g.met.K.Keeper.same_itself c.args.keeper) c.args.job.now)

pub returns-in-Beyond-clause-left : goal.returns-in-Beyond-clause-left
returns-in-Beyond-clause-left g c =
    if_err c.compared.result (same_job (map (λ f. f.items) c.args.files.now) _ _ (g.R.Read.remaining c.args.input.now) (g.E.Write.contents c.args.err.now)
    (λ _. g.met.K.Keeper.same_itself c.args.keeper) c.args.job.now)

pub returns-in-Serve-clause-left : goal.returns-in-Serve-clause-left
returns-in-Serve-clause-left g c =
    same_job (map (λ f. f.items) c.args.files.now) _ _ (g.R.Read.remaining c.args.input.now) (g.E.Write.contents c.args.err.now)
    (λ _. g.met.K.Keeper.same_itself c.args.keeper) c.args.job.now

pub returns-in-Deliver-clause-left : goal.returns-in-Deliver-clause-left
returns-in-Deliver-clause-left g c =
    let places = c.in-Deliver.places in
    let err = g.E.Write.contents c.args.err.now in
    let is : c.args.job.now ≡ Deliver places c.as_str.result.now = c.in-Deliver.is ∙ ap (Deliver places) (sym c.as_str.ensures) in
    left_of_job c.deliver_lines.result.0 c.args.job.now _ (map (λ f. f.items) c.args.files.now) _ _ (g.R.Read.remaining c.args.input.now) err err is
    (c.deliver_lines.ensures.left places err)

pub returns-in-Print-clause-left : goal.returns-in-Print-clause-left
returns-in-Print-clause-left g c =
    left_of_job c.print_host.result.0 c.args.job.now _ (map (λ f. f.items) c.args.files.now) _ _ (g.R.Read.remaining c.args.input.now)
    (g.E.Write.contents c.args.err.now) (g.E.Write.contents c.print_host.new.err) c.in-Print.is c.print_host.ensures.left

pub returns-in-Review-clause-left : goal.returns-in-Review-clause-left
returns-in-Review-clause-left g c =
    left_of_job c.review_desk.result.0 c.args.job.now _ (map (λ f. f.items) c.args.files.now) _ _ (g.R.Read.remaining c.args.input.now)
    (g.E.Write.contents c.args.err.now) (g.E.Write.contents c.review_desk.new.err) c.in-Review.is c.review_desk.ensures.left

pub returns-in-Rebuild-clause-left : goal.returns-in-Rebuild-clause-left
returns-in-Rebuild-clause-left g c =
    let input = g.R.Read.remaining c.args.input.now in
    let err = g.E.Write.contents c.args.err.now in
    left_of_job c.rebuild_desk.result.0 c.args.job.now _ (map (λ f. f.items) c.args.files.now) _ _ input err err c.in-Rebuild.is
    (c.rebuild_desk.ensures.left c.in-Rebuild.places input err)

-- ---- what storage did

pub returns-in-Deliver-clause-served : goal.returns-in-Deliver-clause-served
returns-in-Deliver-clause-served g c =
    served_as ⊥ _ (λ none. none) (wants_delivered c.args.job.now c.in-Deliver.places _ c.deliver_lines.result.0 c.in-Deliver.is) c.deliver_lines.ensures.served

pub returns-in-Print-clause-served : goal.returns-in-Print-clause-served
returns-in-Print-clause-served g c = served_as ⊥ _ (λ none. none) (wants_refused c.args.job.now c.print_host.result.0) c.print_host.ensures.served

pub returns-in-Review-clause-served : goal.returns-in-Review-clause-served
returns-in-Review-clause-served g c = served_as ⊥ _ (λ none. none) (wants_refused c.args.job.now c.review_desk.result.0) c.review_desk.ensures.served

pub returns-in-Rebuild-clause-served : goal.returns-in-Rebuild-clause-served
returns-in-Rebuild-clause-served g c = served_as ⊥ _ (λ none. none) (wants_refused c.args.job.now c.rebuild_desk.result.0) c.rebuild_desk.ensures.served

-- ---- the keeper is up

pub returns-in-Check-clause-live : goal.returns-in-Check-clause-live
returns-in-Check-clause-live g c = λ asked. absurd (subst IsOnDesk c.in-Check.is asked)

pub returns-in-Decide-clause-live : goal.returns-in-Decide-clause-live
returns-in-Decide-clause-live g c = λ asked. absurd (subst IsOnDesk c.in-Decide.is asked)

pub returns-in-Beyond-clause-live : goal.returns-in-Beyond-clause-live
returns-in-Beyond-clause-live g c = λ asked. absurd (subst IsOnDesk c.in-Beyond.is asked)

pub returns-in-Serve-clause-live : goal.returns-in-Serve-clause-live
returns-in-Serve-clause-live g c = λ asked. absurd (subst IsOnDesk c.in-Serve.is asked)

pub returns-in-Deliver-clause-live : goal.returns-in-Deliver-clause-live
returns-in-Deliver-clause-live g c = λ _. lives_as g.K.Keeper c.deliver_lines.result.1 _ _ c.deliver_lines.result.0
    (wants_delivered c.args.job.now c.in-Deliver.places _ c.deliver_lines.result.0 c.in-Deliver.is) c.deliver_lines.ensures.live

pub returns-in-Print-clause-live : goal.returns-in-Print-clause-live
returns-in-Print-clause-live g c = λ _. lives_as g.K.Keeper c.print_host.result.1 _ _ c.print_host.result.0
    (wants_refused c.args.job.now c.print_host.result.0) c.print_host.ensures.live

pub returns-in-Review-clause-live : goal.returns-in-Review-clause-live
returns-in-Review-clause-live g c = λ _. lives_as g.K.Keeper c.review_desk.result.1 _ _ c.review_desk.result.0
    (wants_refused c.args.job.now c.review_desk.result.0) c.review_desk.ensures.live

pub returns-in-Rebuild-clause-live : goal.returns-in-Rebuild-clause-live
returns-in-Rebuild-clause-live g c = λ _. lives_as g.K.Keeper c.rebuild_desk.result.1 _ _ c.rebuild_desk.result.0
    (wants_refused c.args.job.now c.rebuild_desk.result.0) c.rebuild_desk.ensures.live
