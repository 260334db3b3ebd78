use Rattle.std.proofs.lemmas.Result.{IfOk-weaker}
use Rattle.suspects.proofs.ReviewLemmas.{all_reviewed}
use Rattle.suspects.proofs.summaries.reviewed_in.Goals as goal

pub returns-in-None : goal.returns-in-None
returns-in-None c = λ set are written suspects. IfOk-weaker c.summaries_in.result _ _
    (λ list summaries. all_reviewed c.args.roster.now.says set c.args.at list.items summaries) (c.summaries_in.ensures set are)
