use Rattle.sudo_beyond.proofs.HasCase.{user_has_a_case}
use Rattle.sudo_beyond.proofs.laws.each_user_has_a_case.Goals as goal

pub returns : goal.returns
returns c = user_has_a_case
