use Rattle.std.proofs.Common.{reverse, take, sym, subst, List}
use Rattle.sudo_policy.specs.declared.entry.Entry.{Entry}
use Rattle.sudo_decide.specs.Decision.{DecidesBy}
use Rattle.sudo_decide.proofs.AnswerLemmas.{take_one_more}
use Rattle.sudo_decide.proofs.policy.decide.Goals as goal

pub loop-entry-preserved : goal.loop-entry-preserved
loop-entry-preserved c =
    let all = c.entries-entry-items.result.now in
    let more = take_one_more all c.loop-entry.entry-index c.entry-item.result c.loop-entry-test.true c.entry-item.is in
    let P : List Entry → Type 0 = λ es. DecidesBy (reverse c.args.p.now) es c.args.i.now c.decision_after-decision.result in
    subst P (sym more) (c.decision_after-decision.ensures (take c.loop-entry.entry-index all) c.loop-entry.invariant)
