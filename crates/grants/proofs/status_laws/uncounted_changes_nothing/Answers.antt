use Rattle.grants.proofs.CountingLaws.{added, taken_away}
use Rattle.grants.proofs.status_laws.uncounted_changes_nothing.Goals as goal

pub returns : goal.returns
returns c = λ f set v name status never. (added f set v name status never, taken_away f set v name status never)
