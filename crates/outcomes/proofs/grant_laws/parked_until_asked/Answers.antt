use Rattle.outcomes.proofs.LawLemmas.{leaves_parked, stays_parked}
use Rattle.outcomes.proofs.grant_laws.parked_until_asked.Goals as goal

pub returns-clause-parked : goal.returns-clause-parked
returns-clause-parked c = stays_parked

pub returns-clause-leaves : goal.returns-clause-leaves
returns-clause-leaves c = leaves_parked
