use Rattle.std.proofs.Common.{MatchOption, subst}
use Rattle.messages.specs.Fields.{RequestFields}
use Rattle.grants.specs.Statuses.{NeverComplete}
use Rattle.grants.specs.Verdicts.{IsComplete}
use Rattle.findings.specs.Judging.{messages_on}
use Rattle.findings.proofs.judged.completion_of.Goals as goal

pub returns : goal.returns
returns c =
    let f = c.args.roster.now.says in
    let set = messages_on c.args.request.now c.args.verdicts.now in
    subst (λ (q : RequestFields). MatchOption c.completed_at.result (NeverComplete f set q) (IsComplete f set q)) c.in_ok-summary.ensures.request
    (c.completed_at.ensures set c.in_ok-summary.ensures.stands)
