use Rattle.grants.proofs.RuleLemmas.{span_grants}
use Rattle.review.proofs.need.own_policy.Goals as goal

pub host_policy-requires-clause-grants : goal.host_policy-requires-clause-grants
host_policy-requires-clause-grants c =
    span_grants c.args.host.now c.args.request.now c.requires.request c.args.window.now.start c.args.window.now.end
    c.requires.window.0 c.requires.window.1 c.requires.host c.in_ok-rules.rules.items c.in_ok-rules.ensures
