use Rattle.std.proofs.Common.{sym, ap, subst, ◌∙◌}
use Rattle.std.proofs.lemmas.Result.{IfOk-weaker}
use Rattle.outcomes.specs.Gathered.{Known}
use Rattle.outcomes.specs.Summaries.{AreSummaries}
use Rattle.outcomes.proofs.summaries.summaries_in.Goals as goal

pub returns : goal.returns
returns c = λ set are. IfOk-weaker c.in_order.result _ _
    (λ list is. subst (AreSummaries set) (sym (is ∙ ap (λ (k : Known). k.summaries) c.gathered.view_is)) are.summaries) c.in_order.ensures
