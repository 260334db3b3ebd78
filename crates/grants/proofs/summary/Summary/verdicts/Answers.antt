use Rattle.std.proofs.Common.{List, ◌++◌, sym, ap, subst, ◌∙◌}
use Rattle.messages.specs.Fields.{VerdictFields}
use Rattle.messages.specs.declared.kind.VerdictKind.TheVariants.{Approve, Refuse, Revoke}
use Rattle.grants.specs.Summaries.{AreVerdictsOn, Kept, StandsFor}
use Rattle.grants.proofs.VerdictLists.{are_verdicts, verdicts_kept}
use Rattle.grants.proofs.summary.Summary.verdicts.Goals as goal

pub returns : goal.returns
returns c = λ set s.
    let inside = c.self.inside in
    let q = inside.request in
    let approvals = inside.approvals.keys in
    let refusals = inside.refusals.keys in
    let revocations = inside.revocations.keys in
    let list = c.push_verdicts-3.new.list.items in
    let stands = subst (λ (x : Kept). StandsFor set x) (sym c.self.view_is) s in
    let one = c.in_ok-push_verdicts.ensures ∙ ap (λ (vs : List VerdictFields). vs ++ verdicts_kept q Approve approvals) c.new-list.ensures.items in
    let two = c.in_ok-push_verdicts-2.ensures ∙ ap (λ (vs : List VerdictFields). vs ++ verdicts_kept q Refuse refusals) one in
    let three = c.in_ok-push_verdicts-3.ensures ∙ ap (λ (vs : List VerdictFields). vs ++ verdicts_kept q Revoke revocations) two in
    let are = are_verdicts set q approvals refusals revocations stands.approvals stands.refusals stands.revocations in
    subst (λ (x : Kept). AreVerdictsOn set x.request list) c.self.view_is
    (subst (λ (vs : List VerdictFields). AreVerdictsOn set q vs) (sym three) are)
