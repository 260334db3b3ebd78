use Rattle.sudo_compiled.proofs.Everything.{entries_of_all}
use Rattle.sudo_compiled.proofs.used.Used.of.Goals as goal

pub returns : goal.returns
returns c = entries_of_all c.new.result c.new.ensures.users c.new.ensures.runas c.new.ensures.hosts c.new.ensures.cmnds c.args.entries.now
