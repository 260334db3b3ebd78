use Rattle.roster.proofs.DutyLemmas.{in_seconds}
use Rattle.roster.proofs.laws.days_in_seconds.Goals as goal

pub returns : goal.returns
returns c = in_seconds
