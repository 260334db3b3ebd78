use Rattle.std.proofs.Common.{◌≡◌, ℕ, List, true, sym, ap, subst, ◌∙◌}
use Rattle.std.proofs.lemmas.Result.{IfOk-weaker}
use Rattle.std.specs.List.{list_any}
use Rattle.std.specs.Str.{bytes_eq}
use Rattle.grants.specs.private.Given.{EndsInTime}
use Rattle.grants.specs.declared.outcome.Status.{Status}
use Rattle.grants.proofs.RuleLemmas.{request_grants}
use Rattle.grants.proofs.rules.rules_for.Goals as goal

pub returns-in-Granted-clause-grants : goal.returns-in-Granted-clause-grants
returns-in-Granted-clause-grants c = λ ends.
    let host = c.args.host.now in
    let q = c.args.request.now in
    let w = c.in-Granted.window in
    let among : list_any (λ h. bytes_eq h host) q.hosts ≡ true =
    ap (λ (hs : List (List ℕ)). list_any (λ h. bytes_eq h host) hs) (sym c.hosts.ensures.value) ∙ sym c.contains.ensures.value ∙ c.if-contains.true in
    let inside = subst (λ (x : Status). EndsInTime q x) c.in-Granted.is ends in
    IfOk-weaker c.grant_rules.result _ _
    (λ v e. request_grants host q c.hosts.ensures.request w.start w.end inside.0 inside.1 among v.items e) c.grant_rules.ensures
