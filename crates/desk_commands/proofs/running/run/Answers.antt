use Rattle.std.proofs.Common.{◌⊎◌, map}
use Rattle.desk_commands.specs.Answers.{IsOnDesk}
use Rattle.desk_commands.proofs.AnswerLemmas.{concluded, not_concluded}
use Rattle.desk_commands.proofs.LivingLemmas.{lives_either}
use Rattle.desk_commands.proofs.LeavingLemmas.{kept_after, told_after}
use Rattle.desk_commands.proofs.running.run.Goals as goal

pub returns-clause-answered : goal.returns-clause-answered
returns-clause-answered g c =
    concluded c.args.job.now (map (λ f. f.items) c.args.files.now) _ (g.R.Read.remaining c.args.input.now)
    (g.W.Write.contents c.args.out.now) (g.W.Write.contents c.conclude.new.out) (g.E.Write.contents c.args.err.now)
    (g.E.Write.contents c.answered-answer.new.err) (g.E.Write.contents c.conclude.new.err) c.answered-answer.result.0 c.conclude.result
    c.answered-answer.ensures.outcome c.conclude.ensures.answered c.conclude.ensures.unanswered (IsOnDesk c.args.job.now ⊎ g.K.Keeper.is_up c.args.keeper)
    (g.K.Keeper.is_clean c.answered-answer.result.1) (g.K.Keeper.is_up c.answered-answer.result.1)
    (lives_either g.K.Keeper c.args.keeper c.answered-answer.result.1 c.args.job.now c.answered-answer.result.0 c.answered-answer.ensures.served.up
    c.answered-answer.ensures.live)

pub returns-clause-refused : goal.returns-clause-refused
returns-clause-refused g c =
    λ _. not_concluded c.args.job.now (map (λ f. f.items) c.args.files.now) _ (g.R.Read.remaining c.args.input.now) (g.W.Write.contents c.args.out.now)
    (g.W.Write.contents c.conclude.new.out) (g.E.Write.contents c.args.err.now) (g.E.Write.contents c.answered-answer.new.err)
    (g.E.Write.contents c.conclude.new.err) c.answered-answer.result.0 c.conclude.result c.answered-answer.ensures.outcome
    c.conclude.ensures.front c.conclude.ensures.unanswered

pub returns-clause-kept : goal.returns-clause-kept
returns-clause-kept g c =
    λ _ up. kept_after c.args.job.now (map (λ f. f.items) c.args.files.now) _ (g.K.Keeper.is_same c.args.keeper c.answered-answer.result.1)
    (g.R.Read.remaining c.args.input.now) (g.E.Write.contents c.args.err.now) (g.E.Write.contents c.answered-answer.new.err)
    (g.E.Write.contents c.conclude.new.err) c.answered-answer.result.0 c.answered-answer.ensures.outcome c.answered-answer.ensures.left up

pub returns-clause-told : goal.returns-clause-told
returns-clause-told g c = λ _. told_after c.args.job.now (map (λ f. f.items) c.args.files.now) _ (g.K.Keeper.is_same c.args.keeper c.answered-answer.result.1)
    (g.R.Read.remaining c.args.input.now) (g.E.Write.contents c.args.err.now) (g.E.Write.contents c.answered-answer.new.err)
    (g.E.Write.contents c.conclude.new.err) c.answered-answer.result.0 c.answered-answer.ensures.outcome c.answered-answer.ensures.left c.conclude.ensures.told
    (g.K.Keeper.is_up c.args.keeper × g.K.Keeper.is_clean c.answered-answer.result.1) (λ both. c.answered-answer.ensures.served.up both.0 both.1)
