use Rattle.std.proofs.Common.{take}
use Rattle.sudo_policy.specs.private.Measures.{IsMeasured}
use Rattle.sudo_policy.proofs.aliases.Aliases.measured.Given as goal

abbrev pub invariant-loop-signed : goal.invariant-loop-signed
invariant-loop-signed g l = IsMeasured g.T.Aliased.alias_of l.self (take l.signed-index l.list) l.all
