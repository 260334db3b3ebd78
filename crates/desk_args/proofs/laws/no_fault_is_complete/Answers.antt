use Rattle.desk_args.proofs.Complete.{complete}
use Rattle.desk_args.proofs.laws.no_fault_is_complete.Goals as goal

pub returns : goal.returns
returns c = complete
