use Rattle.std.proofs.Common.{sym, subst}
use Rattle.messages.specs.declared.request_name.RequestName.{RequestName}
use Rattle.grants.specs.Statuses.{IsStatus}
use Rattle.outcomes.proofs.ByNameLemmas.{opened}
use Rattle.outcomes.proofs.GatherLemmas.{IsAt}
use Rattle.outcomes.proofs.Standing.{name_from_named}
use Rattle.outcomes.proofs.name_status.status_in.Goals as goal

pub returns-in-Some : goal.returns-in-Some
returns-in-Some c = λ set are.
    let f = c.args.roster.now.says in
    let name = c.args.name.now in
    let inside = c.gathered.inside in
    let by = opened set inside.summaries inside.waiting c.args.gathered.now c.gathered.view_is c.gathered.invariant.0 are in
    let k = c.in-Some.summary.now in
    let is = subst (IsAt set name) (sym c.in-Some.ensures.value) (by.summaries.each name) in
    subst (λ (n : RequestName). IsStatus f set n c.status.result) (name_from_named k.request name is.named) (c.status.ensures set is.stands)

pub returns-in-None : goal.returns-in-None
returns-in-None c = λ set are.
    let name = c.args.name.now in
    let inside = c.gathered.inside in
    let by = opened set inside.summaries inside.waiting c.args.gathered.now c.gathered.view_is c.gathered.invariant.0 are in
    subst (IsAt set name) (sym c.in-None.ensures.value) (by.summaries.each name)
