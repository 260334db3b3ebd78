use Rattle.sudo_beyond.proofs.OneList.{one_list_of_each}
use Rattle.sudo_beyond.proofs.laws.one_list_of_each.Goals as goal

pub returns : goal.returns
returns c = one_list_of_each
