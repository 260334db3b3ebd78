use Rattle.std.proofs.Common.{length}
use Rattle.messages.proofs.write.+push_more_hosts.Given as goal

abbrev pub decreases-push_more_hosts : goal.decreases-push_more_hosts
decreases-push_more_hosts l = length l.hosts.now
