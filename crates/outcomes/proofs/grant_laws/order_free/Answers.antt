use Rattle.outcomes.proofs.LawLemmas.{order_free}
use Rattle.outcomes.proofs.SetLemmas.{parked_of_set}
use Rattle.outcomes.proofs.SummaryLemmas.{summaries_of_set}
use Rattle.outcomes.proofs.grant_laws.order_free.Goals as goal

pub returns-clause-grants : goal.returns-clause-grants
returns-clause-grants c = order_free

pub returns-clause-parked : goal.returns-clause-parked
returns-clause-parked c = λ s t texts same are. parked_of_set s t texts same are

pub returns-clause-summaries : goal.returns-clause-summaries
returns-clause-summaries c = λ s t list same are. summaries_of_set s t list same are
