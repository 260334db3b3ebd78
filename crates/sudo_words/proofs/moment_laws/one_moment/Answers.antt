use Rattle.sudo_words.proofs.MomentTexts.{one_spelled}
use Rattle.sudo_words.proofs.moment_laws.one_moment.Goals as goal

pub returns : goal.returns
returns c = one_spelled
