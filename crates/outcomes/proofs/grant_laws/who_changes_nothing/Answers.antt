use Rattle.outcomes.proofs.LawLemmas.{conflicting, own, uncounted, unlawful}
use Rattle.outcomes.proofs.grant_laws.who_changes_nothing.Goals as goal

pub returns-clause-asker : goal.returns-clause-asker
returns-clause-asker c = own

pub returns-clause-conflict : goal.returns-clause-conflict
returns-clause-conflict c = conflicting

pub returns-clause-revocation : goal.returns-clause-revocation
returns-clause-revocation c = unlawful

pub returns-clause-uncounted : goal.returns-clause-uncounted
returns-clause-uncounted c = uncounted
