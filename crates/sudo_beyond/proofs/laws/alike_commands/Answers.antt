use Rattle.sudo_beyond.proofs.AlikeLemmas.{alike_cmnds}
use Rattle.sudo_beyond.proofs.laws.alike_commands.Goals as goal

pub returns : goal.returns
returns c = alike_cmnds
