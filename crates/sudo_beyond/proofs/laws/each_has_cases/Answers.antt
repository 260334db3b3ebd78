use Rattle.sudo_beyond.proofs.Answered.{each_has_cases, few_or_many}
use Rattle.sudo_beyond.proofs.laws.each_has_cases.Goals as goal

pub returns-clause-cases : goal.returns-clause-cases
returns-clause-cases c = each_has_cases

pub returns-clause-count : goal.returns-clause-count
returns-clause-count c = few_or_many
