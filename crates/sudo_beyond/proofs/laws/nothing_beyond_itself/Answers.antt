use Rattle.sudo_beyond.proofs.PolicyLaws.{not_beyond_itself}
use Rattle.sudo_beyond.proofs.laws.nothing_beyond_itself.Goals as goal

pub returns : goal.returns
returns c = not_beyond_itself
