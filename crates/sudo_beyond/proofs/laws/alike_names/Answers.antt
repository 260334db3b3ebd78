use Rattle.sudo_beyond.proofs.AlikeLemmas.{alike_names}
use Rattle.sudo_beyond.proofs.laws.alike_names.Goals as goal

pub returns : goal.returns
returns c = alike_names
