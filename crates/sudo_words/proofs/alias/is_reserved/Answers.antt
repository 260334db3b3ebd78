use Rattle.sudo_words.specs.Word.{is_reserved}
use Rattle.sudo_words.proofs.alias.is_reserved.Goals as goal

pub returns : goal.returns
unfolding is_reserved
returns c = c.is_among.ensures
