use Rattle.std.proofs.Common.{ℕ, List, subst}
use Rattle.std.proofs.Common.{IfOk}
use Rattle.review.specs.Needs.{IsNeedOn, IsNeedOver}
use Rattle.review.proofs.need.need_of.Goals as goal

pub returns : goal.returns
returns c =
    subst (λ (hosts : List (List ℕ)). IfOk c.need_over.result (IsNeedOver (IsNeedOn c.args.base.now c.args.request.now c.args.window.now) hosts))
    c.hosts.ensures.value c.need_over.ensures
