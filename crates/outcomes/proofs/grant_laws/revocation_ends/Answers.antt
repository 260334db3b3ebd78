use Rattle.outcomes.proofs.LawLemmas.{revoked_before}
use Rattle.outcomes.proofs.grant_laws.revocation_ends.Goals as goal

pub returns : goal.returns
returns c = revoked_before
