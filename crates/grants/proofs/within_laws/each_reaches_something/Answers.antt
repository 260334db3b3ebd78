use Rattle.grants.proofs.Inclusion.{reaches}
use Rattle.grants.proofs.within_laws.each_reaches_something.Goals as goal

pub returns : goal.returns
returns c = reaches
