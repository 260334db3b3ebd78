use Rattle.std.proofs.Common.{◌∙◌, ap}
use Rattle.std.specs.Option.{ok_or}
use Rattle.sudo_policy.specs.declared.fault.LineFault.TheVariants.{BadMoment}
use Rattle.sudo_syntax.proofs.spec.moment_of.Goals as goal

pub returns-clause-only : goal.returns-clause-only
returns-clause-only c = λ t h. c.ok_or.ensures.value ∙ ap (λ o. ok_or o BadMoment) (c.read.ensures.only t h)
