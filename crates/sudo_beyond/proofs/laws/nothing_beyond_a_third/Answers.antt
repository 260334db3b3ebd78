use Rattle.sudo_beyond.proofs.PolicyLaws.{not_beyond_a_third}
use Rattle.sudo_beyond.proofs.laws.nothing_beyond_a_third.Goals as goal

pub returns : goal.returns
returns c = not_beyond_a_third
