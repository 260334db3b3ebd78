use Rattle.archive.proofs.WorkedHistory.{cut_at_last, cut_over, nothing_live}
use Rattle.archive.proofs.laws.worked_cut.Goals as goal

pub returns-clause-last : goal.returns-clause-last
returns-clause-last c = cut_at_last

pub returns-clause-over : goal.returns-clause-over
returns-clause-over c = cut_over

pub returns-clause-stays : goal.returns-clause-stays
returns-clause-stays c = nothing_live 1_767_603_600
