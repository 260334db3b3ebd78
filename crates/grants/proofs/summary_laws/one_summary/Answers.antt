use Rattle.grants.proofs.SummaryLaws.{alone, disputed, marks}
use Rattle.grants.proofs.summary_laws.one_summary.Goals as goal

pub returns-clause-disputed : goal.returns-clause-disputed
returns-clause-disputed c = disputed

pub returns-clause-marks : goal.returns-clause-marks
returns-clause-marks c = marks

pub returns-clause-alone : goal.returns-clause-alone
returns-clause-alone c = alone
