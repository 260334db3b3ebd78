use Rattle.sudo_beyond.proofs.PolicyLaws.{as_many}
use Rattle.sudo_beyond.proofs.Theorem.{all_in_scope}
use Rattle.sudo_beyond.proofs.laws.cases_are_invocations.Goals as goal

pub returns-clause-count : goal.returns-clause-count
returns-clause-count c = as_many

pub returns-clause-form : goal.returns-clause-form
returns-clause-form c = all_in_scope
