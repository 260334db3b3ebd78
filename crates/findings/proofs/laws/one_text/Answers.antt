use Rattle.findings.proofs.OneText.{one_text}
use Rattle.findings.proofs.laws.one_text.Goals as goal

pub returns : goal.returns
returns c = λ f pick entries s t a b. one_text f pick entries s t a b
