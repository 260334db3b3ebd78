use Rattle.std.proofs.Common.{refl}
use Rattle.std.specs.Fmt.{digits}
use Rattle.sudo_words.specs.Moment.{date_from_month, date_from_year, date_of}
use Rattle.findings.proofs.laws.worked_lines.Goals as goal

pub returns-clause-refused : goal.returns-clause-refused
unfolding digits
returns-clause-refused c = refl

pub returns-clause-request : goal.returns-clause-request
unfolding digits date_of date_from_year date_from_month
returns-clause-request c = refl

pub returns-clause-windows : goal.returns-clause-windows
unfolding digits date_of date_from_year date_from_month
returns-clause-windows c = refl
