use Rattle.std.proofs.Common.{List, sym, ap, ◌∙◌}
use Rattle.sudo_compiled.specs.declared.plain.PlainRule.{PlainRule}
use Rattle.sudo_compiled.specs.Compiled.{answer}
use Rattle.sudo_compiled.proofs.Answering.{answer_speaks, answer_silent}
use Rattle.sudo_compiled.proofs.among.decide_among.Goals as goal

pub returns-in-Some-spoken : goal.returns-in-Some-spoken
returns-in-Some-spoken c =
    sym (ap (λ (rules : List PlainRule). answer rules c.args.i.now) c.in-Some.ensures.cases.0
    ∙ answer_speaks c.in-Some.before.now c.in-Some.last.now c.args.i.now c.in-Some-spoken.decision (sym c.in-Some-spoken.ensures))
    ∙ c.loop-last.invariant

pub loop-last-preserved : goal.loop-last-preserved
loop-last-preserved c =
    sym (ap (λ (rules : List PlainRule). answer rules c.args.i.now) c.in-Some.ensures.cases.0
    ∙ answer_silent c.in-Some.before.now c.in-Some.last.now c.args.i.now (sym c.in_default-spoken.ensures))
    ∙ c.loop-last.invariant
