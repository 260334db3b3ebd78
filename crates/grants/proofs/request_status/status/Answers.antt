use Rattle.std.proofs.Common.{sym, ap, subst, ◌∙◌}
use Rattle.messages.specs.Names.{name_of}
use Rattle.grants.specs.Admission.{AdmitsRequest}
use Rattle.grants.specs.private.Status.{IsAdmittedUnder}
use Rattle.grants.specs.Statuses.{IsStatus}
use Rattle.grants.specs.Summaries.{Kept}
use Rattle.grants.specs.declared.outcome.Status.{Status}
use Rattle.grants.proofs.StatusLemmas.{admitted_is, lapsed_is}
use Rattle.grants.proofs.request_status.status.Goals as goal

pub returns-in-None : goal.returns-in-None
returns-in-None c = λ set s.
    let f = c.args.roster.now.says in
    let single = ap (λ (x : Kept). x.is_disputed) (sym c.s.view_is) ∙ c.if-s.false in
    lapsed_is f set c.args.s.now (subst (λ (x : Kept). ¬ AdmitsRequest f x.request) c.s.view_is c.in-None.ensures.denied) single s

pub returns-in-Some : goal.returns-in-Some
returns-in-Some c = λ set s.
    let f = c.args.roster.now.says in
    let k = c.args.s.now in
    let ceiling = c.in-Some.ceiling.now in
    let single = ap (λ (x : Kept). x.is_disputed) (sym c.s.view_is) ∙ c.if-s.false in
    let under = subst (λ (x : Kept). IsAdmittedUnder f x.request ceiling) c.s.view_is c.in-Some.ensures.admitted in
    subst (λ (x : Status). IsStatus f set (name_of k.request) x) (sym c.admitted_status.ensures)
    (admitted_is f ceiling set k under.ceiling_is under.needs.0 under.admits single s)
