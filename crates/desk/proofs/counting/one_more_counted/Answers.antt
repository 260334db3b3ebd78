use Rattle.desk.proofs.CountLemmas.{held_counted, new_counted, none_counted}
use Rattle.desk.proofs.counting.one_more_counted.Goals as goal

pub returns : goal.returns
returns c = record {
  none = none_counted;
  new = new_counted;
  held = held_counted;
}
