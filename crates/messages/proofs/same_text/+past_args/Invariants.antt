use Rattle.std.proofs.Common.{length}
use Rattle.messages.proofs.same_text.+past_args.Given as goal

abbrev pub decreases-past_args : goal.decreases-past_args
decreases-past_args l = length l.args.now
