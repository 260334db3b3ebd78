use Rattle.outcomes.proofs.FileLemmas.{one_file, one_file_after}
use Rattle.outcomes.proofs.SetLemmas.{one_live, one_outcome, one_parked}
use Rattle.outcomes.proofs.SummaryLemmas.{one_of_summaries}
use Rattle.outcomes.proofs.grant_laws.one_of_each.Goals as goal

pub returns-clause-status : goal.returns-clause-status
returns-clause-status c = one_outcome

pub returns-clause-live : goal.returns-clause-live
returns-clause-live c = one_live

pub returns-clause-parked : goal.returns-clause-parked
returns-clause-parked c = one_parked

pub returns-clause-file : goal.returns-clause-file
returns-clause-file c = one_file

pub returns-clause-file_after : goal.returns-clause-file_after
returns-clause-file_after c = one_file_after

pub returns-clause-summaries : goal.returns-clause-summaries
returns-clause-summaries c = one_of_summaries
