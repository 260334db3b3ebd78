use Rattle.sudo_policy.proofs.Canon as canonical
use Rattle.sudo_policy.proofs.laws.canon_spells.Goals as goal

pub returns : goal.returns
returns c = canonical.canon_spells
