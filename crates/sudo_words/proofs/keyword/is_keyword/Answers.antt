use Rattle.sudo_words.specs.Word.{is_keyword}
use Rattle.sudo_words.proofs.keyword.is_keyword.Goals as goal

pub returns : goal.returns
unfolding is_keyword
returns c = c.is_among.ensures
