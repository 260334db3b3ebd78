use Rattle.desk.proofs.CountLemmas.{count_of_texts}
use Rattle.desk.proofs.counting.count_of_texts.Goals as goal

pub returns : goal.returns
returns c = count_of_texts
