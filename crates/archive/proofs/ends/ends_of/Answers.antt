use Rattle.std.proofs.Common.{List, take, sym, subst}
use Rattle.std.proofs.lemmas.List.{take_all}
use Rattle.messages.specs.declared.message.Message.{Message}
use Rattle.sudo_decide.proofs.AnswerLemmas.{take_one_more}
use Rattle.archive.specs.private.Ends.{AreEnds}
use Rattle.archive.proofs.EndLemmas.{no_ends}
use Rattle.archive.proofs.ends.ends_of.Goals as goal

pub loop-message-init : goal.loop-message-init
loop-message-init c = no_ends c.new-ends.result c.new-ends.ensures.empty

pub loop-message-preserved : goal.loop-message-preserved
loop-message-preserved c =
    let set = c.args.messages.now in
    let i = c.loop-message.message-index in
    let item = c.message-item.result in
    subst (λ (seen : List Message). AreEnds seen c.take.new.ends)
    (sym (take_one_more set i item c.loop-message-test.true c.message-item.is)) (c.in_ok-take.ensures.ok (take i set) c.loop-message.invariant)

pub returns : goal.returns
returns c =
    subst (λ (seen : List Message). AreEnds seen c.loop-message.ends)
    (take_all c.loop-message.message-index c.args.messages.now c.loop-message-test.false) c.loop-message.invariant
