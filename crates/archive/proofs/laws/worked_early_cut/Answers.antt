use Rattle.std.proofs.Common.{refl}
use Rattle.archive.proofs.WorkedHistory.{cut_early, nothing_again}
use Rattle.archive.proofs.laws.worked_early_cut.Goals as goal

pub returns-clause-cut : goal.returns-clause-cut
returns-clause-cut c = cut_early

pub returns-clause-whole : goal.returns-clause-whole
returns-clause-whole c = nothing_again

pub returns-clause-same : goal.returns-clause-same
returns-clause-same c = refl
