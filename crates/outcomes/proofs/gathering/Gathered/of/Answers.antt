use Rattle.std.proofs.Common.{List, take, sym, subst}
use Rattle.std.proofs.lemmas.List.{take_all}
use Rattle.messages.specs.declared.message.Message.{Message}
use Rattle.sudo_decide.proofs.AnswerLemmas.{take_one_more}
use Rattle.outcomes.specs.Gathered.{AreGathered}
use Rattle.outcomes.proofs.gathering.Gathered.of.Goals as goal

pub loop-message-preserved : goal.loop-message-preserved
loop-message-preserved c =
    let set = c.args.set.now in
    let i = c.loop-message.message-index in
    let item = c.message-item.result in
    subst (λ (seen : List Message). AreGathered seen c.take.new.self)
    (sym (take_one_more set i item c.loop-message-test.true c.message-item.is)) (c.in_ok-take.ensures.ok (take i set) c.loop-message.invariant)

pub returns : goal.returns
returns c =
    subst (λ (seen : List Message). AreGathered seen c.loop-message.gathered)
    (take_all c.loop-message.message-index c.args.set.now c.loop-message-test.false) c.loop-message.invariant
