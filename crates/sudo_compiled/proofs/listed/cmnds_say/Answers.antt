use Rattle.std.proofs.Common.{Bool, true, Some, None, if◌then◌else◌, sym, ap, ◌∙◌}
use Rattle.sudo_compiled.specs.Compiled.{match_answer}
use Rattle.sudo_compiled.proofs.Answering.{list_says_yes, list_passes}
use Rattle.sudo_compiled.proofs.listed.cmnds_say.Goals as goal

pub returns-then-matches : goal.returns-then-matches
returns-then-matches c =
    let matched = ap (λ (b : Bool). if b then Some true else None) (sym c.matches.ensures ∙ c.if-matches.true) in
    c.yes.ensures ∙ list_says_yes (match_answer c.args.path.now c.args.args.now) c.loop-last.rest.now
    c.in-Some.others.now c.in-Some.last.now c.in-Some.ensures.cases.0 matched ∙ c.loop-last.invariant

pub loop-last-preserved : goal.loop-last-preserved
loop-last-preserved c =
    let missed = ap (λ (b : Bool). if b then Some true else None) (sym c.matches.ensures ∙ c.if-matches.false) in
    list_passes (match_answer c.args.path.now c.args.args.now) c.loop-last.rest.now c.in-Some.others.now c.in-Some.last.now c.in-Some.ensures.cases.0 missed
    ∙ c.loop-last.invariant
