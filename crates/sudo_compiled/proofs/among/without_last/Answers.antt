use Rattle.std.proofs.Common.{List, refl, sym, ap, ◌∙◌}
use Rattle.sudo_compiled.specs.declared.plain.PlainRule.{PlainRule}
use Rattle.sudo_compiled.specs.Compiled.{answer}
use Rattle.sudo_compiled.proofs.Answering.{answer_silent, silent_of_others}
use Rattle.sudo_compiled.proofs.among.without_last.Goals as goal

pub loop-last-init : goal.loop-last-init
loop-last-init c = λ j same. refl

pub loop-last-preserved : goal.loop-last-preserved
loop-last-preserved c =
    λ j same. c.loop-last.invariant j same ∙ ap (λ (rules : List PlainRule). answer rules j) c.in-Some.ensures.cases.0 ∙ answer_silent c.in-Some.others.now
    c.in-Some.last.now j (silent_of_others c.in-Some.last.now c.args.i.now j same (sym c.is_about.ensures ∙ c.if-is_about.false))
