use Rattle.std.proofs.Common.{length}
use Rattle.messages.proofs.same.+same_cmnds.Given as goal

abbrev pub decreases-same_cmnds : goal.decreases-same_cmnds
decreases-same_cmnds l = length l.a.now
