use Rattle.sudo_syntax.proofs.SignsTags.{last_counts}
use Rattle.sudo_syntax.proofs.line_laws.tags.Goals as goal

pub returns : goal.returns
returns c = last_counts
