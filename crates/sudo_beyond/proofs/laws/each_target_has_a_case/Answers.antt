use Rattle.sudo_beyond.proofs.HasCase.{target_has_a_case}
use Rattle.sudo_beyond.proofs.laws.each_target_has_a_case.Goals as goal

pub returns : goal.returns
returns c = target_has_a_case
