use Rattle.review.proofs.ReportLaws.{barred_changes_nothing, barred_is_not_eligible, unbarred_is_eligible}
use Rattle.review.proofs.report_laws.barred_changes_nothing.Goals as goal

pub returns-clause-barred : goal.returns-clause-barred
returns-clause-barred c = barred_is_not_eligible

pub returns-clause-other : goal.returns-clause-other
returns-clause-other c = unbarred_is_eligible

pub returns-clause-nothing : goal.returns-clause-nothing
returns-clause-nothing c = barred_changes_nothing
