use Rattle.std.proofs.Common.{ℕ, List, sym, subst}
use Rattle.std.proofs.lemmas.Result.{IfOk-weaker}
use Rattle.grants.specs.Summaries.{AreApprovals, Kept, StandsFor}
use Rattle.grants.proofs.ApprovalLemmas.{are_approvals}
use Rattle.grants.proofs.summary.Summary.approvals.Goals as goal

pub returns : goal.returns
returns c = λ set s.
    let inside = c.self.inside in
    let stands = subst (λ (x : Kept). StandsFor set x) (sym c.self.view_is) s in
    IfOk-weaker c.shown.result _ _ (λ list h. subst (λ (x : Kept). AreApprovals set x.request list.items) c.self.view_is (subst (λ (shown : List (List ℕ × ℕ)).
    AreApprovals set inside.request shown) (sym h) (are_approvals set inside.request inside.approvals.keys stands.approvals))) c.shown.ensures
