use Rattle.review.proofs.SomeReport.{some_report}
use Rattle.review.proofs.report_laws.each_has_a_report.Goals as goal

pub returns : goal.returns
returns c = some_report
