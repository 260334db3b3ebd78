use Rattle.std.proofs.Common.{◌≡◌, List, [], ◌∷◌, ◌++◌, ap, ◌∙◌}
use Rattle.std.specs.BTreeMap.{values}
use Rattle.grants.specs.Summaries.{Kept}
use Rattle.outcomes.proofs.GivenLists.{turn_split}
use Rattle.outcomes.proofs.summaries.in_order.Goals as goal

pub loop-summary-preserved : goal.loop-summary-preserved
loop-summary-preserved c =
    let l = c.loop-summary in
    let k = c.in-Some.summary.now in
    let copied : c.push.new.self.items ≡ l.list.items ++ k ∷ [] =
    c.in_ok-push.ensures.items ∙ ap (λ (x : Kept). l.list.items ++ x ∷ []) c.in_ok-clone.ensures.cases in
    ap (λ (ks : List Kept). ks ++ c.next.new.self) copied
    ∙ turn_split l.list.items l.summary-iterator c.next.new.self (values c.args.summaries.now) k l.invariant c.in-Some.ensures.steps
