use Rattle.findings.proofs.CompletionLaws.{completion_moved}
use Rattle.findings.proofs.laws.completion_by_its_verdicts.Goals as goal

pub returns : goal.returns
returns c = λ f set q vs o has is. completion_moved f set q vs has o is
