use Rattle.sudo_syntax.proofs.LinesAlike.{comments}
use Rattle.sudo_syntax.proofs.line_laws.comments.Goals as goal

pub returns : goal.returns
returns c = comments
