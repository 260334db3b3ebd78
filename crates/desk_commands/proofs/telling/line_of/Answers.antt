use Rattle.desk_commands.proofs.TellingLemmas.{written}
use Rattle.desk_commands.proofs.telling.line_of.Goals as goal

pub returns : goal.returns
returns c = written c.new-line.result _ c.writeln.new.self c.new-line.ensures.text c.new-line.ensures.intact c.in_ok-writeln.ensures.writes
