use Rattle.std.proofs.Common.{Bool, Option, sym, ap, ◌∙◌}
use Rattle.std.specs.Option.{option_or}
use Rattle.std.proofs.lemmas.List.{take_all}
use Rattle.sudo_decide.specs.Decision.{signed_answer, list_answer}
use Rattle.sudo_decide.proofs.AnswerLemmas.{list_answer-take_more}
use Rattle.sudo_compiled.specs.private.Writing.{known_says}
use Rattle.sudo_compiled.proofs.writing.written_items.Goals as goal

pub loop-x-init : goal.loop-x-init
loop-x-init g c = λ i. ap (list_answer (g.K.Kind.plain i)) c.in_ok-out.ensures.items

pub loop-x-preserved : goal.loop-x-preserved
loop-x-preserved g c = λ i.
    let says = g.K.Kind.says i (known_says (g.K.Kind.plain i) c.args.known.now) in
    let x = c.x-item.result in
    c.in_ok-push_item.ensures i
    ∙ ap (λ (a : Option Bool). option_or (signed_answer x.negated (says x.item)) a) (c.loop-x.invariant i)
    ∙ sym (list_answer-take_more says c.args.list.now c.loop-x.x-index x c.loop-x-test.true c.x-item.is)

pub returns : goal.returns
returns g c = λ i.
    c.loop-x.invariant i
    ∙ ap (list_answer (g.K.Kind.says i (known_says (g.K.Kind.plain i) c.args.known.now))) (take_all c.loop-x.x-index c.args.list.now c.loop-x-test.false)
