use Rattle.grants.proofs.Privileges.{wider, more, listed}
use Rattle.grants.proofs.admission_laws.more_admits_more.Goals as goal

pub returns-clause-ceiling : goal.returns-clause-ceiling
returns-clause-ceiling c = wider

pub returns-clause-roster : goal.returns-clause-roster
returns-clause-roster c = more

pub returns-clause-listed : goal.returns-clause-listed
returns-clause-listed c = listed
