use Rattle.desk_audit.proofs.ByNameLemmas.{none_gathered}
use Rattle.desk_audit.proofs.ByTextLemmas.{all_taken, none_taken, one_taken}
use Rattle.desk_audit.proofs.gathering.gather_in_order.Goals as goal

pub loop-text-init : goal.loop-text-init
loop-text-init c = λ list are.
    none_taken c.args.sorted.entries c.into_iter-text-iterator.result c.new-all.result c.into_iter-text-iterator.ensures.into_iter_gives.0
    (none_gathered c.new-all.result c.new-all.ensures.ordered c.new-all.ensures.empty)

pub loop-text-preserved : goal.loop-text-preserved
loop-text-preserved c = λ list are.
    let l = c.loop-text in
    one_taken list c.args.sorted are _ _ l._text-iterator c.next.new.self l.all c.put.new.all c.in-Some.ensures.steps c.in_ok-put.ensures (l.invariant list are)

pub returns : goal.returns
returns c = λ list are messages.
    let l = c.loop-text in
    all_taken list c.args.sorted are l._text-iterator l.all messages c.in-None.ensures.steps.0 (l.invariant list are)
