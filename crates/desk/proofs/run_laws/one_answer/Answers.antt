use Rattle.desk.proofs.DeliveryLemmas.{one_answer}
use Rattle.desk.proofs.run_laws.one_answer.Goals as goal

pub returns : goal.returns
returns c = one_answer
