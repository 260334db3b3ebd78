use Rattle.messages.proofs.WorkedTexts.{empty_canonical, seven_canonical, members_canonical}
use Rattle.messages.proofs.text_laws.worked_canonical_json.Goals as goal

pub returns : goal.returns
returns c = record { empty = empty_canonical; number = seven_canonical; members = members_canonical }
