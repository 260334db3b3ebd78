use Rattle.sudo_syntax.proofs.WorkedTexts.{echo_spell, bin_spell}
use Rattle.sudo_syntax.proofs.worked_laws.worked_commands.Goals as goal

pub returns : goal.returns
returns c = record { escape = echo_spell; directory = bin_spell }
