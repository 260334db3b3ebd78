use Rattle.std.proofs.Common.{List, take, ap, sym, ◌∙◌, map}
use Rattle.messages.specs.Wire.{wire}
use Rattle.messages.specs.declared.message.Message.{Message}
use Rattle.sudo_decide.proofs.AnswerLemmas.{take_one_more}
use Rattle.desk.proofs.TextLemmas.{one_more}
use Rattle.desk.proofs.texts.texts_of.Goals as goal

pub loop-message-preserved : goal.loop-message-preserved
loop-message-preserved c =
    let set = c.args.set.now in
    let i = c.loop-message.message-index in
    let item = c.message-item.result in
    one_more c.loop-message.texts.items c.push.new.self.items c.in_ok-text.field-0 (take i set) item c.in_ok-push.ensures.items c.in_ok-text.ensures
    c.loop-message.invariant ∙ ap (λ (l : List Message). map wire l) (sym (take_one_more set i item c.loop-message-test.true c.message-item.is))
