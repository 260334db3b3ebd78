use Rattle.sudo_decide.proofs.DecisionLemmas.{silent_rule_added, silent_rule_taken}
use Rattle.sudo_decide.proofs.laws.silent_rule.Goals as goal

pub returns : goal.returns
returns c = record { added = silent_rule_added; taken_away = silent_rule_taken }
