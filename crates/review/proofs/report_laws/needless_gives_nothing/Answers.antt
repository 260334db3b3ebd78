use Rattle.review.proofs.Needless.{file_without, needless_covered}
use Rattle.review.proofs.ReportLaws.{needless_gives_nothing}
use Rattle.review.proofs.report_laws.needless_gives_nothing.Goals as goal

pub returns-clause-covered : goal.returns-clause-covered
returns-clause-covered c = needless_covered

pub returns-clause-file : goal.returns-clause-file
returns-clause-file c = λ f base set q w i lines are first last needless form. file_without f base set q w i lines are first last needless form

pub returns-clause-rules : goal.returns-clause-rules
returns-clause-rules c = needless_gives_nothing
