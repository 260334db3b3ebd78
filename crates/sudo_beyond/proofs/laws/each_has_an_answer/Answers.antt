use Rattle.sudo_beyond.proofs.Answered.{beyond_or_not, each_has_a_first}
use Rattle.sudo_beyond.proofs.laws.each_has_an_answer.Goals as goal

pub returns-clause-first : goal.returns-clause-first
returns-clause-first c = each_has_a_first

pub returns-clause-told : goal.returns-clause-told
returns-clause-told c = beyond_or_not
