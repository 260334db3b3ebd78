use Rattle.std.proofs.Common.{reverse}
use Rattle.sudo_decide.proofs.Speakers.{some_decision}
use Rattle.sudo_decide.proofs.laws.some_decision.Goals as goal

pub returns : goal.returns
returns c = λ es. some_decision (reverse es) es
