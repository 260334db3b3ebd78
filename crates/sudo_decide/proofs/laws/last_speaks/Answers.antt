use Rattle.std.proofs.Common.{[], ◌∷◌, ◌++◌, reverse}
use Rattle.sudo_policy.specs.declared.entry.Entry.TheVariants as entries
use Rattle.sudo_decide.proofs.DecisionLemmas.{decides_rule_last}
use Rattle.sudo_decide.proofs.laws.last_speaks.Goals as goal

pub returns : goal.returns
returns c = λ es r. decides_rule_last (reverse (es ++ entries.Rule r ∷ [])) es r
