use Rattle.std.proofs.Common.{true, false, [], ◌∷◌, reverse, refl}
use Rattle.sudo_policy.specs.declared.entry.Entry.TheVariants as entries
use Rattle.sudo_decide.specs.Worked.{rule_for, asks}
use Rattle.sudo_decide.proofs.DecisionLemmas.{decides_rule_last}
use Rattle.sudo_decide.proofs.laws.worked_decisions.Goals as goal

pub returns-clause-denied : goal.returns-clause-denied
returns-clause-denied c =
    decides_rule_last (reverse (entries.Rule (rule_for false false) ∷ entries.Rule (rule_for false true) ∷ []))
    (entries.Rule (rule_for false false) ∷ []) (rule_for false true) (asks 150) false refl

pub returns-clause-allowed : goal.returns-clause-allowed
returns-clause-allowed c =
    decides_rule_last (reverse (entries.Rule (rule_for false true) ∷ entries.Rule (rule_for false false) ∷ []))
    (entries.Rule (rule_for false true) ∷ []) (rule_for false false) (asks 150) true refl

pub returns-clause-no_password : goal.returns-clause-no_password
returns-clause-no_password c =
    decides_rule_last (reverse (entries.Rule (rule_for false true) ∷ entries.Rule (rule_for true false) ∷ []))
    (entries.Rule (rule_for false true) ∷ []) (rule_for true false) (asks 150) true refl
