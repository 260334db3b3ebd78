use Rattle.roster.proofs.DutyLemmas.{more_conflicts}
use Rattle.roster.proofs.laws.more_conflicts_fewer_eligible.Goals as goal

pub returns : goal.returns
returns c = more_conflicts
