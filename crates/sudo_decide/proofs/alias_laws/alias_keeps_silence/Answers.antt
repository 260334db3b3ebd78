use Rattle.std.proofs.Common.{◌∙◌}
use Rattle.sudo_decide.specs.Decision.{item_answer, cmnd_answer}
use Rattle.sudo_decide.proofs.AliasLemmas.{alias_says_by_definition}
use Rattle.sudo_decide.proofs.AnswerLemmas.{signed_answer_silent}
use Rattle.sudo_decide.proofs.alias_laws.alias_keeps_silence.Goals as goal

pub returns-clause-names : goal.returns-clause-names
returns-clause-names c = λ later above d asked negated other quiet.
    signed_answer_silent negated _ (alias_says_by_definition (λ says item. item_answer says asked item) later above d other ∙ quiet)

pub returns-clause-cmnds : goal.returns-clause-cmnds
returns-clause-cmnds c = λ later above d path args negated other quiet.
    signed_answer_silent negated _ (alias_says_by_definition (λ says item. cmnd_answer says path args item) later above d other ∙ quiet)
