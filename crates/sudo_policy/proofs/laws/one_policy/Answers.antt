use Rattle.sudo_policy.proofs.One as one
use Rattle.sudo_policy.proofs.laws.one_policy.Goals as goal

pub returns : goal.returns
returns c = one.text_one
