use Rattle.std.proofs.Common.{refl}
use Rattle.findings.proofs.OneDocument.{one_document}
use Rattle.findings.proofs.laws.one_document.Goals as goal

pub returns : goal.returns
returns c = λ f pick entries s t a b. one_document f pick entries entries s t refl a b
