use Rattle.sudo_words.specs.Moment.{IsStamp}
use Rattle.messages.specs.Wire.{moment_text}
use Rattle.messages.proofs.PlainTexts.{moment_stamped}
use Rattle.messages.proofs.members.moment_member.Goals as goal

pub returns-clause-only : goal.returns-clause-only
returns-clause-only c = λ t moment found.
    let is = c.in_ok-text_member.ensures.only (moment_text t) found in
    let stamped : IsStamp c.in_ok-text_member.field-0.now t = rw is (moment_stamped t moment) in
    let read = c.read_stamp.ensures.only t stamped in
    rw read at c.ok_or.ensures.value
