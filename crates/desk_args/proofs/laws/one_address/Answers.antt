use Rattle.desk_args.proofs.Addresses.{one_address}
use Rattle.desk_args.proofs.laws.one_address.Goals as goal

pub returns : goal.returns
returns c = one_address
