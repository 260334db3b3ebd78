use Rattle.std.proofs.Common.{◌∙◌, ap, sym}
use Rattle.outcomes.specs.private.ByName.{at_name}
use Rattle.outcomes.proofs.IndexLemmas.{same_from_test}
use Rattle.outcomes.proofs.WalkLemmas.{behind, next_is}
use Rattle.outcomes.proofs.walk.summary_at.Goals as goal

pub returns-in-Some-clause-value : goal.returns-in-Some-clause-value
returns-in-Some-clause-value c =
    let m = c.args.summaries.now in
    let next = c.in-Some.next.now in
    let same = same_from_test next c.args.name.now (sym c.eq.ensures ∙ c.if-eq.true) in
    sym (next_is m c.args.rest.now c.next.new.self (next, c.in-Some.summary.now) c.in-Some.ensures.steps c.requires) ∙ ap (at_name m) same

pub returns-in-Some-clause-rest : goal.returns-in-Some-clause-rest
returns-in-Some-clause-rest c =
    behind c.args.summaries.now c.args.rest.now c.next.new.self (c.in-Some.next.now, c.in-Some.summary.now) c.in-Some.ensures.steps c.requires
