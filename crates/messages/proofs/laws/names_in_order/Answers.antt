use Rattle.messages.proofs.NameOrder.{either_name, less_from_lower, lower_from_less, names_strict, names_trans}
use Rattle.messages.proofs.laws.names_in_order.Goals as goal

pub returns : goal.returns
returns c = record {
  order = λ a b. (lower_from_less a b, less_from_lower a b);
  one = either_name;
  strict = names_strict;
  behind = names_trans;
}
