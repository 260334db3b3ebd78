use Rattle.review.proofs.PassedOver.{whole}
use Rattle.review.proofs.reporting.is_whole.Goals as goal

pub returns : goal.returns
returns c = λ set written are have.
    whole c.text-text.result.now c.args.roster.now.says c.args._base.now set c.args._at c.text-text.ensures.roster written
    c.args._summaries.now c.args._parts.now are have
