use Rattle.sudo_words.proofs.CommandLemmas.{one_command}
use Rattle.sudo_words.proofs.laws.one_command.Goals as goal

pub returns : goal.returns
returns c = one_command
