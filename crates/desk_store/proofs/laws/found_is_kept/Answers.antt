use Rattle.desk_store.proofs.FoundLemmas.{found_as}
use Rattle.desk_store.proofs.laws.found_is_kept.Goals as goal

pub returns : goal.returns
returns c = found_as
