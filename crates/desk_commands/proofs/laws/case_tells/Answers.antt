use Rattle.desk_commands.proofs.CaseLines.{case_is_not_none, one_case}
use Rattle.desk_commands.proofs.laws.case_tells.Goals as goal

pub returns-clause-one : goal.returns-clause-one
returns-clause-one c = one_case

pub returns-clause-not_none : goal.returns-clause-not_none
returns-clause-not_none c = case_is_not_none
