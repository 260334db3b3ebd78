use Rattle.json.specs.Value.{value_view}
use Rattle.messages.proofs.Readings.{tree_read, parsed_message}
use Rattle.messages.proofs.reader.message_in.Goals as goal

pub returns-in-Ok-clause-only : goal.returns-in-Ok-clause-only
returns-in-Ok-clause-only c = λ m h same.
    let tree = tree_read m c.args.body.now (value_view c.in-Ok.value) h same c.in-Ok.ensures.ok.1 in
    c.message_said.ensures.only m h tree same

pub returns-in-Err-Invalid-clause-only : goal.returns-in-Err-Invalid-clause-only
returns-in-Err-Invalid-clause-only c = λ m h same. absurd (parsed_message m c.args.body.now h same (c.from_slice.ensures.invalid cc))
