use Rattle.std.proofs.Common.{Bool, true, Some, None, if◌then◌else◌, sym, ap, ◌∙◌}
use Rattle.sudo_compiled.specs.Compiled.{plain_answer}
use Rattle.sudo_compiled.proofs.Answering.{list_says_yes, list_passes}
use Rattle.sudo_compiled.proofs.listed.plains_say.Goals as goal

pub returns-then-is_meant : goal.returns-then-is_meant
returns-then-is_meant c =
    let meant = sym c.is_meant.ensures ∙ ap (λ (b : Bool). if b then Some true else None) c.if-is_meant.true in
    c.yes.ensures
    ∙ list_says_yes (plain_answer c.args.asked.now) c.loop-last.rest.now c.in-Some.others.now c.in-Some.last.now c.in-Some.ensures.cases.0 meant
    ∙ c.loop-last.invariant

pub loop-last-preserved : goal.loop-last-preserved
loop-last-preserved c =
    let missed = sym c.is_meant.ensures ∙ ap (λ (b : Bool). if b then Some true else None) c.if-is_meant.false in
    list_passes (plain_answer c.args.asked.now) c.loop-last.rest.now c.in-Some.others.now c.in-Some.last.now c.in-Some.ensures.cases.0 missed
    ∙ c.loop-last.invariant
