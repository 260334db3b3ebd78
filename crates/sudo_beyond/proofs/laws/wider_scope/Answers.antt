use Rattle.sudo_beyond.proofs.PolicyLaws.{wider}
use Rattle.sudo_beyond.proofs.laws.wider_scope.Goals as goal

pub returns : goal.returns
returns c = wider
