use Rattle.std.proofs.Common.{length}
use Rattle.messages.proofs.same_text.+past_more_cmnds.Given as goal

abbrev pub decreases-past_more_cmnds : goal.decreases-past_more_cmnds
decreases-past_more_cmnds l = length l.cmnds.now
