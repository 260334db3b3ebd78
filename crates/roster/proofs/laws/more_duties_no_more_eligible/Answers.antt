use Rattle.roster.proofs.DutyLemmas.{more_duties}
use Rattle.roster.proofs.laws.more_duties_no_more_eligible.Goals as goal

pub returns : goal.returns
returns c = more_duties
