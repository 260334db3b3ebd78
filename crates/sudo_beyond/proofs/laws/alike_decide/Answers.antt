use Rattle.sudo_beyond.proofs.AlikeLemmas.{alike_decide}
use Rattle.sudo_beyond.proofs.laws.alike_decide.Goals as goal

pub returns : goal.returns
returns c = alike_decide
