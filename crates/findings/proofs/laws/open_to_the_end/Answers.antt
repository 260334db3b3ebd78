use Rattle.std.proofs.Common.{refl}
use Rattle.findings.proofs.laws.open_to_the_end.Goals as goal

pub returns : goal.returns
returns c = record { granted = λ name about w at. refl; parked = λ name about at. refl }
