use Rattle.roster.proofs.RightLemmas.{agree_turned}
use Rattle.review.proofs.PastReports.{past_lines, past_report}
use Rattle.review.proofs.past_laws.past_reports_stay.Goals as goal

pub returns-clause-lines : goal.returns-clause-lines
returns-clause-lines c = λ f g moment base set at text agree made r. past_lines f g moment agree set made base at text r

pub returns-clause-whole : goal.returns-clause-whole
returns-clause-whole c = λ f g moment base set at text agree made early. (
  past_report f g moment agree set made base at text early,
  past_report g f moment (agree_turned f g moment agree) set made base at text early,
)
