use Rattle.std.proofs.Common.{reverse}
use Rattle.sudo_decide.proofs.Speakers.{one_decision}
use Rattle.sudo_decide.proofs.laws.one_decision.Goals as goal

pub returns : goal.returns
returns c = λ es. one_decision (reverse es) es
