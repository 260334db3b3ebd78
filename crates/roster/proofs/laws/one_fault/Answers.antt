use Rattle.roster.proofs.FaultLemmas.{one_fault}
use Rattle.roster.proofs.laws.one_fault.Goals as goal

pub returns : goal.returns
returns c = one_fault
