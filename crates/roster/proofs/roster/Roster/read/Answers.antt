use Rattle.std.proofs.lemmas.Result.{err_from_is_err_and}
use Rattle.roster.proofs.FaultLemmas.{only_memory}
use Rattle.roster.proofs.Uniqueness.{one_roster}
use Rattle.roster.proofs.roster.Roster.read.Goals as goal

pub returns-in_err-content-clause-only : goal.returns-in_err-content-clause-only
returns-in_err-content-clause-only c =
    let p = err_from_is_err_and c.from_residual-in_err-content.result c.from_residual-in_err-content.ensures.1 in
    rw (p.1, p.2) (λ f r. only_memory c.args.text.now f _ r c.in_err-content.ensures.least)

pub returns-clause-only : goal.returns-clause-only
returns-clause-only c = λ f r. one_roster c.args.text.now _ f c.in_ok-content.ensures.found r

pub returns-in_err-content-clause-least : goal.returns-in_err-content-clause-least
returns-in_err-content-clause-least c =
    let p = err_from_is_err_and c.from_residual-in_err-content.result c.from_residual-in_err-content.ensures.1 in
    rw (p.1, p.2) c.in_err-content.ensures.least

pub returns-clause-found : goal.returns-clause-found
returns-clause-found c = (c.in_ok-kept.ensures.ok, c.in_ok-content.ensures.found)
