use Rattle.std.proofs.Common.{reverse}
use Rattle.sudo_decide.specs.Reach.{of_policy}
use Rattle.sudo_decide.proofs.Reaching.{answers_decide}
use Rattle.sudo_decide.proofs.Speakers.{one_decision}
use Rattle.sudo_compiled.specs.Compiled.{answer}
use Rattle.sudo_compiled.proofs.laws.aliases_abbreviate.Goals as goal

pub returns : goal.returns
returns c = λ p q x y i by_x by_y alike.
    one_decision (reverse q) q i (answer x i) (answer y i) (answers_decide (of_policy p i) (of_policy q i) p q (answer x i) alike by_x) by_y
