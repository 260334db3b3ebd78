use Rattle.std.proofs.Common.{reverse}
use Rattle.sudo_decide.proofs.OneRule.{one_rule, no_silence}
use Rattle.sudo_decide.proofs.policy_laws.one_rule_decides.Goals as goal

pub returns : goal.returns
returns c = record { rule = λ es. one_rule (reverse es) es; no_silence = λ es. no_silence (reverse es) es }
