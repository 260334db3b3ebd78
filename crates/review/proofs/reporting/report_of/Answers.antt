use Rattle.review.proofs.OfSummaries.{each_stands}
use Rattle.review.proofs.reporting.report_of.Goals as goal

pub returns-clause-all : goal.returns-clause-all
returns-clause-all c = λ set s waiting.
    let kept = c.args.summaries.now in
    c.joined.ensures c.args.base.now set kept s (c.in_ok-parts.ensures set (each_stands set kept s.each)) waiting

pub returns-clause-reviewed : goal.returns-clause-reviewed
returns-clause-reviewed c = λ set written are waiting.
    let whole = c.is_whole.ensures set written are (c.in_ok-parts.ensures set (each_stands set c.args.summaries.now are.each)) in
    c.joined.ensures c.args.base.now set whole.0 whole.1 whole.2 waiting
