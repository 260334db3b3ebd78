use Rattle.std.proofs.Common.{subst}
use Rattle.messages.specs.Fields.{IsRequest}
use Rattle.grants.specs.Summaries.{Kept}
use Rattle.grants.proofs.SomeStatus.{some_status}
use Rattle.grants.proofs.lines.has_status.Goals as goal

pub returns : goal.returns
returns c = λ set s.
    let is = subst (λ (x : Kept). IsRequest x.request) c.s.view_is c.hosts-hosts.ensures.request in
    some_status c.text-text.result.now c.args.roster.now.says set c.args.s.now c.text-text.ensures.roster is s
