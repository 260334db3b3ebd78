use Rattle.std.proofs.Common.{List, [], ◌++◌, ◌∷◌, ◌∙◌, ap, take, sym, subst, append_assoc}
use Rattle.std.proofs.lemmas.List.{append-nil, take_all}
use Rattle.messages.specs.declared.message.Message.{Message}
use Rattle.sudo_words.proofs.Lists.{take_next}
use Rattle.outcomes.specs.Gathered.{AreGathered}
use Rattle.suspects.proofs.part.take_each.Goals as goal

pub loop-message-init : goal.loop-message-init
loop-message-init c = λ some are. subst (λ (s : List Message). AreGathered s c.args.part.now) (sym (append-nil some)) are

pub loop-message-preserved : goal.loop-message-preserved
loop-message-preserved c = λ some are.
    let list = c.args.list.now in
    let i = c.loop-message.message-index in
    let item = c.message-item.result in
    let seen = append_assoc some (take i list) (item ∷ [])
    ∙ ap (λ (t : List Message). some ++ t) (sym (take_next list i item c.loop-message-test.true c.message-item.is)) in
    subst (λ (s : List Message). AreGathered s c.take.new.self) seen (c.in_ok-take.ensures.ok (some ++ take i list) (c.loop-message.invariant some are))

pub returns : goal.returns
returns c = λ some are.
    subst (λ (t : List Message). AreGathered (some ++ t) c.loop-message.part)
    (take_all c.loop-message.message-index c.args.list.now c.loop-message-test.false) (c.loop-message.invariant some are)
