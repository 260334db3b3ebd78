use Rattle.desk.proofs.DeliveryLemmas.{utf8_body}
use Rattle.desk.proofs.delivery.text_of.Goals as goal

pub from_utf8_unchecked-requires : goal.from_utf8_unchecked-requires
from_utf8_unchecked-requires c = utf8_body c.args.body.now c.args._message.now c.requires
