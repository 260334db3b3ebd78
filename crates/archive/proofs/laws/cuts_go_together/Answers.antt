use Rattle.archive.proofs.Cuts.{cut_again, cut_at_first, cut_between, one_cut, whole_again}
use Rattle.archive.proofs.laws.cuts_go_together.Goals as goal

pub returns-clause-one : goal.returns-clause-one
returns-clause-one c = one_cut

pub returns-clause-whole : goal.returns-clause-whole
returns-clause-whole c = whole_again

pub returns-clause-again : goal.returns-clause-again
returns-clause-again c = cut_again

pub returns-clause-between : goal.returns-clause-between
returns-clause-between c = cut_between

pub returns-clause-first : goal.returns-clause-first
returns-clause-first c = cut_at_first
