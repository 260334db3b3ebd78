use Rattle.grants.proofs.StatusLaws.{order_free}
use Rattle.grants.proofs.status_laws.order_is_free.Goals as goal

pub returns : goal.returns
returns c = order_free
