use Rattle.sudo_syntax.proofs.JoiningParts.{parts_apart}
use Rattle.sudo_syntax.proofs.line_laws.joined_parts.Goals as goal

pub returns : goal.returns
returns c = parts_apart
