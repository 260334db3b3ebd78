use Rattle.std.proofs.Common.{List, refl, sym, ap, ◌∙◌}
use Rattle.sudo_compiled.specs.declared.plain.PlainRule.{PlainRule}
use Rattle.sudo_compiled.specs.Compiled.{answer}
use Rattle.sudo_compiled.proofs.Answering.{answer_silent_first, silent_of_others}
use Rattle.sudo_compiled.proofs.among.without_first.Goals as goal

pub loop-first-init : goal.loop-first-init
loop-first-init c = λ j same. refl

pub loop-first-preserved : goal.loop-first-preserved
loop-first-preserved c = λ j same. c.loop-first.invariant j same ∙ ap (λ (rules : List PlainRule). answer rules j) c.in-Some.ensures.cases.0
    ∙ answer_silent_first c.in-Some.others.now c.in-Some.first.now j
    (silent_of_others c.in-Some.first.now c.args.i.now j same (sym c.is_about.ensures ∙ c.if-is_about.false))
