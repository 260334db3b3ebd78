use Rattle.std.proofs.Common.{length}
use Rattle.messages.proofs.same_text.+past_more_hosts.Given as goal

abbrev pub decreases-past_more_hosts : goal.decreases-past_more_hosts
decreases-past_more_hosts l = length l.hosts.now
