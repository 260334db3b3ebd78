use Rattle.roster.proofs.RightLemmas.{set_alike}
use Rattle.roster.proofs.right_laws.entries_are_a_set.Goals as goal

pub returns : goal.returns
returns c = λ f g person duty at. set_alike f person duty at g
