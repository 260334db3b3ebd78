use Rattle.outcomes.proofs.Existence.{some_file, some_file_after, some_live, some_outcome, some_parked, some_summaries}
use Rattle.outcomes.proofs.grant_laws.each_has_one.Goals as goal

pub returns-clause-status : goal.returns-clause-status
returns-clause-status c = λ text f set name roster known. some_outcome text f set roster known name

pub returns-clause-live : goal.returns-clause-live
returns-clause-live c = λ text f set moment roster known. some_live text f set roster known moment

pub returns-clause-file : goal.returns-clause-file
returns-clause-file c = λ text f base set host roster known. some_file text f set roster known base host

pub returns-clause-file_after : goal.returns-clause-file_after
returns-clause-file_after c = λ text f base set host moment roster known. some_file_after text f set roster known base host moment

pub returns-clause-parked : goal.returns-clause-parked
returns-clause-parked c = some_parked

pub returns-clause-summaries : goal.returns-clause-summaries
returns-clause-summaries c = some_summaries
