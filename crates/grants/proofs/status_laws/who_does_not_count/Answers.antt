use Rattle.grants.proofs.CountingLaws.{own_verdict, conflicting_duty, without_duty}
use Rattle.grants.proofs.status_laws.who_does_not_count.Goals as goal

pub returns-clause-asker : goal.returns-clause-asker
returns-clause-asker c = own_verdict

pub returns-clause-conflict : goal.returns-clause-conflict
returns-clause-conflict c = conflicting_duty

pub returns-clause-without_duty : goal.returns-clause-without_duty
returns-clause-without_duty c = without_duty
