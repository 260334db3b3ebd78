use Rattle.grants.proofs.StatusLaws.{one_status}
use Rattle.grants.proofs.status_laws.one_status.Goals as goal

pub returns : goal.returns
returns c = one_status
