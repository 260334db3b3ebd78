use Rattle.std.proofs.Common.{length}
use Rattle.messages.proofs.write.+push_more_cmnds.Given as goal

abbrev pub decreases-push_more_cmnds : goal.decreases-push_more_cmnds
decreases-push_more_cmnds l = length l.cmnds.now
