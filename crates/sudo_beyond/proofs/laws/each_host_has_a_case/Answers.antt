use Rattle.sudo_beyond.proofs.HasCase.{host_has_a_case}
use Rattle.sudo_beyond.proofs.laws.each_host_has_a_case.Goals as goal

pub returns : goal.returns
returns c = host_has_a_case
