use Rattle.sudo_words.proofs.MomentLemmas.{stamp_is, stamp_only}
use Rattle.sudo_words.proofs.moment_laws.stamp_is_stamp.Goals as goal

pub returns-clause-stamp : goal.returns-clause-stamp
returns-clause-stamp c = stamp_is

pub returns-clause-only : goal.returns-clause-only
returns-clause-only c = stamp_only
