use Rattle.desk.proofs.CountLemmas.{one_count}
use Rattle.desk.proofs.counting.one_count.Goals as goal

pub returns : goal.returns
returns c = one_count
