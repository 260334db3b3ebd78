use Rattle.sudo_beyond.proofs.Theorem.{at_a_case, nothing_beyond}
use Rattle.sudo_beyond.proofs.laws.cases_suffice.Goals as goal

pub returns-clause-at_a_case : goal.returns-clause-at_a_case
returns-clause-at_a_case c = at_a_case

pub returns-clause-nowhere : goal.returns-clause-nowhere
returns-clause-nowhere c = nothing_beyond
