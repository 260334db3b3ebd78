use Rattle.roster.proofs.FaultLemmas.{no_fault}
use Rattle.roster.proofs.laws.roster_has_no_fault.Goals as goal

pub returns : goal.returns
returns c = no_fault
