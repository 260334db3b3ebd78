use Rattle.sudo_decide.proofs.DecisionLemmas.{dated_rule_added, dated_rule_taken}
use Rattle.sudo_decide.proofs.laws.rule_outside_dates.Goals as goal

pub returns : goal.returns
returns c = record { added = dated_rule_added; taken_away = dated_rule_taken }
