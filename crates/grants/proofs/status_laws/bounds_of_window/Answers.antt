use Rattle.grants.proofs.WindowLaws.{begins, ends_as_asked, ends_revoked}
use Rattle.grants.proofs.status_laws.bounds_of_window.Goals as goal

pub returns-clause-begins : goal.returns-clause-begins
returns-clause-begins c = begins

pub returns-clause-ends_as_asked : goal.returns-clause-ends_as_asked
returns-clause-ends_as_asked c = ends_as_asked

pub returns-clause-ends_revoked : goal.returns-clause-ends_revoked
returns-clause-ends_revoked c = ends_revoked
