use Rattle.sudo_syntax.proofs.SignsTags.{items_signs, cmnds_signs}
use Rattle.sudo_syntax.proofs.line_laws.signs.Goals as goal

pub returns : goal.returns
returns c = record { items = items_signs; cmnds = cmnds_signs }
