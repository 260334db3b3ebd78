use Rattle.messages.proofs.Uniqueness.{one_message}
use Rattle.messages.proofs.laws.one_message.Goals as goal

pub returns : goal.returns
returns c = one_message
