use Rattle.sudo_decide.specs.Reach.{of_policy}
use Rattle.sudo_decide.proofs.Reaching.{answers_decide}
use Rattle.sudo_decide.proofs.laws.answers_decide.Goals as goal

pub returns : goal.returns
returns c = λ es fs i j. answers_decide (of_policy es i) (of_policy fs j) es fs
