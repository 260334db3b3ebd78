use Rattle.sudo_decide.specs.Decision.{item_answer, cmnd_answer}
use Rattle.sudo_decide.proofs.AliasLemmas.{alias_says_by_definition}
use Rattle.sudo_decide.proofs.alias_laws.alias_answers_its_list.Goals as goal

pub returns-clause-names : goal.returns-clause-names
returns-clause-names c = λ later above d asked. alias_says_by_definition (λ says item. item_answer says asked item) later above d

pub returns-clause-cmnds : goal.returns-clause-cmnds
returns-clause-cmnds c = λ later above d path args. alias_says_by_definition (λ says item. cmnd_answer says path args item) later above d
