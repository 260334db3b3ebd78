use Rattle.sudo_words.proofs.NameLemmas.{sudoedit_end, lawful_end}
use Rattle.sudo_words.proofs.laws.no_sudoedit.Goals as goal

pub returns-clause-last : goal.returns-clause-last
returns-clause-last c = sudoedit_end

pub returns-clause-unlawful : goal.returns-clause-unlawful
returns-clause-unlawful c = lawful_end
