use Rattle.roster.proofs.Uniqueness.{one_roster}
use Rattle.roster.proofs.laws.one_roster.Goals as goal

pub returns : goal.returns
returns c = one_roster
