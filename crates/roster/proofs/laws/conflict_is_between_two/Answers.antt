use Rattle.roster.proofs.DutyLemmas.{between_two, either_way}
use Rattle.roster.proofs.laws.conflict_is_between_two.Goals as goal

pub returns-clause-two : goal.returns-clause-two
returns-clause-two c = between_two

pub returns-clause-either_way : goal.returns-clause-either_way
returns-clause-either_way c = either_way
