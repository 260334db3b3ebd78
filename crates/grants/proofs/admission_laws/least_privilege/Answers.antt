use Rattle.grants.proofs.Privileges.{inside, in_time}
use Rattle.grants.proofs.admission_laws.least_privilege.Goals as goal

pub returns-clause-inside : goal.returns-clause-inside
returns-clause-inside c = inside

pub returns-clause-in_time : goal.returns-clause-in_time
returns-clause-in_time c = in_time
