use Rattle.std.proofs.Common.{reverse, take, sym}
use Rattle.std.specs.List.{flat_map}
use Rattle.sudo_decide.specs.Kinds.{item_says_by}
use Rattle.sudo_decide.proofs.AliasLemmas.{alias_says_its_list, alias_below_is_silent, unknown_alias_is_silent}
use Rattle.sudo_decide.proofs.AnswerLemmas.{list_answer-take_more}
use Rattle.sudo_decide.proofs.answer.+answers.Goals as goal

pub alias_answer-returns-in_err-place : goal.alias_answer-returns-in_err-place
alias_answer-returns-in_err-place g t c =
    let silent = unknown_alias_is_silent (g.K.Kind.says c.args.i.now) g.K.Kind.def c.args.p.now c.args.below c.args.name.now c.in_err-place.ensures in
    cc

pub alias_answer-returns-then-place-below : goal.alias_answer-returns-then-place-below
alias_answer-returns-then-place-below g t c =
    let new = g.met.K.Kind.once c.args.p.now c.requires in
    let own =
    alias_says_its_list (g.K.Kind.says c.args.i.now) g.K.Kind.def c.args.p.now c.in_ok-place.place
    c.args.below c.args.name.now c.in_ok-place.list.now new c.in_ok-place.ensures c.if-place-below.true in
    cc

pub alias_answer-returns-else-place-below : goal.alias_answer-returns-else-place-below
alias_answer-returns-else-place-below g t c =
    let new = g.met.K.Kind.once c.args.p.now c.requires in
    sym (alias_below_is_silent (g.K.Kind.says c.args.i.now) g.K.Kind.def c.args.p.now c.in_ok-place.place
    c.args.below c.args.name.now c.in_ok-place.list.now new c.in_ok-place.ensures c.if-place-below.false)

pub list_answer-loop-x-preserved : goal.list_answer-loop-x-preserved
list_answer-loop-x-preserved g t c =
    let more =
    list_answer-take_more (item_says_by (g.K.Kind.says c.args.i.now) (flat_map g.K.Kind.def (reverse (take c.args.below c.args.p.now))))
    c.args.list.now c.loop-x.x-index c.x-item.result c.loop-x-test.true c.x-item.is in
    cc
