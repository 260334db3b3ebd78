use Rattle.std.proofs.Common.{refl}
use Rattle.std.specs.Fmt.{digits}
use Rattle.sudo_words.specs.Moment.{date_from_month, date_from_year, date_of}
use Rattle.review.proofs.report_laws.worked_lines.Goals as goal

pub returns-clause-text : goal.returns-clause-text
unfolding digits date_of date_from_year date_from_month
returns-clause-text c = refl

pub returns-clause-pairs : goal.returns-clause-pairs
returns-clause-pairs c = refl

pub returns-clause-reasons : goal.returns-clause-reasons
returns-clause-reasons c = refl

pub returns-clause-broad : goal.returns-clause-broad
unfolding digits
returns-clause-broad c = refl

pub returns-clause-days : goal.returns-clause-days
returns-clause-days c = refl

pub returns-clause-last_day : goal.returns-clause-last_day
returns-clause-last_day c = refl

pub returns-clause-conflicts : goal.returns-clause-conflicts
returns-clause-conflicts c = refl

pub returns-clause-ended : goal.returns-clause-ended
returns-clause-ended c = refl
