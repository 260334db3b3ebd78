use Rattle.review.proofs.ReportOne.{one_report}
use Rattle.review.proofs.report_laws.one_report.Goals as goal

pub returns : goal.returns
returns c = one_report
