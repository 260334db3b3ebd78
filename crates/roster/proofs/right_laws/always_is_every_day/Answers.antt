use Rattle.roster.proofs.RightLemmas.{always_alike, held_always}
use Rattle.roster.proofs.right_laws.always_is_every_day.Goals as goal

pub returns-clause-held : goal.returns-clause-held
returns-clause-held c = held_always

pub returns-clause-same : goal.returns-clause-same
returns-clause-same c = λ f g person duty other before after at. always_alike f person duty at g other before after
