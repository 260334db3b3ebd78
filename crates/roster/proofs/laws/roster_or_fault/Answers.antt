use Rattle.roster.proofs.SomeRoster.{some_answer}
use Rattle.roster.proofs.laws.roster_or_fault.Goals as goal

pub returns : goal.returns
returns c = some_answer
