use Rattle.sudo_beyond.proofs.HasCase.{moment_has_a_case}
use Rattle.sudo_beyond.proofs.laws.each_moment_has_a_case.Goals as goal

pub returns : goal.returns
returns c = moment_has_a_case
