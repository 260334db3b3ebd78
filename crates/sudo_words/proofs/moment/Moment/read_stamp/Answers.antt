use Rattle.sudo_words.proofs.MomentLemmas.{stamp_spells}
use Rattle.sudo_words.proofs.moment.Moment.read_stamp.Goals as goal

pub returns-clause-only : goal.returns-clause-only
returns-clause-only c = λ t h. c.read.ensures.only t (stamp_spells c.args.text.now t h)
