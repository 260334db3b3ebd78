use Rattle.std.proofs.Common.{◌∙◌, ap}
use Rattle.outcomes.specs.private.ByName.{listed}
use Rattle.outcomes.proofs.gathering.waited.Goals as goal

pub returns-in-Some : goal.returns-in-Some
returns-in-Some c = c.deref.ensures.value ∙ ap listed c.in-Some.ensures.value

pub returns-in-None : goal.returns-in-None
returns-in-None c = ap listed c.in-None.ensures.value
