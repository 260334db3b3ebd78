use Rattle.grants.proofs.MomentLaws.{alike, first_given, has_first}
use Rattle.grants.proofs.status_laws.rights_of_the_moment.Goals as goal

pub returns-clause-alike : goal.returns-clause-alike
returns-clause-alike c = alike

pub returns-clause-has_first : goal.returns-clause-has_first
returns-clause-has_first c = has_first

pub returns-clause-first_given : goal.returns-clause-first_given
returns-clause-first_given c = first_given
