use Rattle.sudo_syntax.proofs.Inheriting.{has_rule, one_each}
use Rattle.sudo_syntax.proofs.line_laws.inheritance.Goals as goal

pub returns : goal.returns
returns c = record { rule = has_rule; each = one_each }
