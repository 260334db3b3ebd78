use Rattle.sudo_syntax.proofs.WordLemmas.{word_utf8}
use Rattle.sudo_syntax.proofs.token.text_of.Goals as goal

pub from_utf8_unchecked-requires : goal.from_utf8_unchecked-requires
from_utf8_unchecked-requires c = word_utf8 c.args.word.now c.requires
