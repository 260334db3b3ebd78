use Rattle.findings.proofs.InkLemmas.{line_ink}
use Rattle.findings.proofs.laws.no_word_is_lost.Goals as goal

pub returns : goal.returns
returns c = λ heading words. line_ink heading words
