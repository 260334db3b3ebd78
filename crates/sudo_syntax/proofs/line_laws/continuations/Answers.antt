use Rattle.sudo_syntax.proofs.LinesAlike.{continuations}
use Rattle.sudo_syntax.proofs.line_laws.continuations.Goals as goal

pub returns : goal.returns
returns c = continuations
