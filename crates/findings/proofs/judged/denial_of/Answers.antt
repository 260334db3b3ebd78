use Rattle.std.proofs.Common.{refl, subst}
use Rattle.messages.specs.Fields.{RequestFields}
use Rattle.messages.specs.declared.message.Message.TheVariants.{Request}
use Rattle.grants.specs.Admission.{IsDenial}
use Rattle.findings.proofs.judged.denial_of.Goals as goal

pub returns : goal.returns
returns c =
    subst (λ (q : RequestFields). IsDenial c.args.roster.now.says (Request q) c.in-Err.denial) c.in_ok-clone.ensures.cases
    ((c.in-Err.ensures.denied c.in-Err.denial).0 refl)
