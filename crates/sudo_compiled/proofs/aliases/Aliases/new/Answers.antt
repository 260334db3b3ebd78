use Rattle.std.proofs.Common.{ap}
use Rattle.sudo_compiled.specs.Compiled.{plain_answer, match_answer}
use Rattle.sudo_compiled.specs.private.Writing.{found_says}
use Rattle.sudo_compiled.proofs.aliases.Aliases.new.Goals as goal

pub returns : goal.returns
returns c = λ used. record {
  users = λ i name here. ap (found_says (plain_answer i.user)) (c.new.ensures name);
  runas = λ i name here. ap (found_says (plain_answer i.runas)) (c.new-2.ensures name);
  hosts = λ i name here. ap (found_says (plain_answer i.host)) (c.new-3.ensures name);
  cmnds = λ i name here. ap (found_says (match_answer i.path i.args)) (c.new-4.ensures name);
}
