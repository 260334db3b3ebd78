use Rattle.roster.proofs.RightLemmas.{cut_alike}
use Rattle.roster.proofs.right_laws.cut_days_are_the_same.Goals as goal

pub returns : goal.returns
returns c = λ f g person duty other before after from middle until at. cut_alike f person duty at g other before after from middle until
