use Rattle.roster.proofs.RightLemmas.{eligible_alike, may_revoke_alike}
use Rattle.roster.proofs.right_laws.same_duties_same_rights.Goals as goal

pub returns-clause-eligible : goal.returns-clause-eligible
returns-clause-eligible c = eligible_alike

pub returns-clause-may_revoke : goal.returns-clause-may_revoke
returns-clause-may_revoke c = may_revoke_alike
