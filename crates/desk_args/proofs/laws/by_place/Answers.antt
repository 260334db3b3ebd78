use Rattle.desk_args.proofs.ByPlace.{said}
use Rattle.desk_args.proofs.laws.by_place.Goals as goal

pub returns : goal.returns
returns c = said
