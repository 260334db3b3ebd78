use Rattle.std.proofs.Common.{◌∙◌, ap, rules}
use Rattle.outcomes.specs.private.ByName.{at_name, listed}
use Rattle.outcomes.proofs.NameMaps.{others_from, sets_from}
use Rattle.outcomes.proofs.WaitLemmas.{Waiting}
use Rattle.outcomes.proofs.gathering.wait.Goals as goal

pub returns-in_err-push-in-Some-clause-others : goal.returns-in_err-push-in-Some-clause-others
returns-in_err-push-in-Some-clause-others c = λ other differ.
    let after = c.push.new.self in
    let holds = c.get_mut.follows.holds after in
    ap listed ((sets_from c.args.waiting.now (c.get_mut.follows.lender after) c.args.name after (holds.3 (search rules))).elsewhere other differ)

pub returns-in_ok-push-in-Some-clause-others : goal.returns-in_ok-push-in-Some-clause-others
returns-in_ok-push-in-Some-clause-others c = λ other differ.
    let after = c.push.new.self in
    let holds = c.get_mut.follows.holds after in
    ap listed ((sets_from c.args.waiting.now (c.get_mut.follows.lender after) c.args.name after (holds.3 (search rules))).elsewhere other differ)

pub returns-in_ok-insert-in-None-clause-others : goal.returns-in_ok-insert-in-None-clause-others
returns-in_ok-insert-in-None-clause-others c = λ other differ. ap listed (others_from c.get_mut.follows.lender-at-none c.insert.new.self
    c.args.name _ c.in_ok-insert-in-None.ensures.updates other differ ∙ ap (λ (m : Waiting). at_name m other) c.get_mut.follows.holds-at-none)
