use Rattle.roster.proofs.DutyLemmas.{not_who_asks, holds_duty, not_against}
use Rattle.roster.proofs.laws.duties_are_separate.Goals as goal

pub returns-clause-not_who_asks : goal.returns-clause-not_who_asks
returns-clause-not_who_asks c = not_who_asks

pub returns-clause-holds_duty : goal.returns-clause-holds_duty
returns-clause-holds_duty c = holds_duty

pub returns-clause-not_against : goal.returns-clause-not_against
returns-clause-not_against c = not_against
