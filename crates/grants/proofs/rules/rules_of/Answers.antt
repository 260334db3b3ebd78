use Rattle.std.proofs.Common.{ap, sym, subst, ◌∙◌}
use Rattle.std.proofs.lemmas.Result.{IfOk-weaker}
use Rattle.grants.specs.GrantRules.{rules_for}
use Rattle.grants.specs.private.Given.{EndsInTime}
use Rattle.grants.specs.Summaries.{Kept}
use Rattle.grants.proofs.RuleLemmas.{are_rules_for, ends_in_time}
use Rattle.grants.proofs.rules.rules_of.Goals as goal

pub returns-clause-rules : goal.returns-clause-rules
returns-clause-rules c = λ set s.
    let host = c.args.host.now in
    let status = c.status.result in
    let same = ap (λ (x : Kept). rules_for host x.request status) c.s.view_is in
    IfOk-weaker c.rules_for.result _ _
    (λ v e. are_rules_for c.args.roster.now.says set c.args.s.now s host status v.items (c.status.ensures set s) (e ∙ same)) c.rules_for.ensures.rules

pub returns-clause-given : goal.returns-clause-given
returns-clause-given c = λ set s.
    let host = c.args.host.now in
    let status = c.status.result in
    let same = ap (λ (x : Kept). rules_for host x.request status) c.s.view_is in
    IfOk-weaker c.rules_for.result _ _ (λ v e. record { status = status; status_is = c.status.ensures set s; rules_are = e ∙ same }) c.rules_for.ensures.rules

pub returns-clause-grants : goal.returns-clause-grants
returns-clause-grants c = λ set s.
    let status = c.status.result in
    let ends = ends_in_time c.args.roster.now.says set c.args.s.now s c.args.host.now status (c.status.ensures set s) in
    c.rules_for.ensures.grants (subst (λ (x : Kept). EndsInTime x.request status) (sym c.s.view_is) ends)
