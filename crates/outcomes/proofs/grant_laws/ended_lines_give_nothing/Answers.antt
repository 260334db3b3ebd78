use Rattle.std.proofs.Common.{refl}
use Rattle.outcomes.proofs.FileLemmas.{file_after_gives_rights, lasts_as_it_takes_part, left_exactly, whole_after_first, without_a_moment}
use Rattle.outcomes.proofs.grant_laws.ended_lines_give_nothing.Goals as goal

pub returns-clause-left : goal.returns-clause-left
returns-clause-left c = left_exactly

pub returns-clause-worked : goal.returns-clause-worked
returns-clause-worked c = λ a b ends ends_later. rw (ends, ends_later) (refl, refl, refl)

pub returns-clause-all : goal.returns-clause-all
returns-clause-all c = without_a_moment

pub returns-clause-some : goal.returns-clause-some
returns-clause-some c = λ moment lines. refl

pub returns-clause-decides : goal.returns-clause-decides
returns-clause-decides c = lasts_as_it_takes_part

pub returns-clause-whole : goal.returns-clause-whole
returns-clause-whole c = whole_after_first

pub returns-clause-rights : goal.returns-clause-rights
returns-clause-rights c = file_after_gives_rights
