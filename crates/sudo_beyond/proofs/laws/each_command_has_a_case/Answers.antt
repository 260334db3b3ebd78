use Rattle.sudo_beyond.proofs.HasCase.{command_has_a_case}
use Rattle.sudo_beyond.proofs.laws.each_command_has_a_case.Goals as goal

pub returns : goal.returns
returns c = command_has_a_case
