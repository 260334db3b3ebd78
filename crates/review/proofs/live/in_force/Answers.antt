use Rattle.std.proofs.Common.{Option, refl, sym, subst}
use Rattle.grants.specs.declared.outcome.Status.TheVariants.{Disputed}
use Rattle.review.specs.declared.live.InForce.{InForce}
use Rattle.review.specs.private.Reporting.{IsInForceOf}
use Rattle.review.proofs.ReportParts.{own_request}
use Rattle.review.proofs.live.in_force.Goals as goal

pub returns-in_err-window-clause-given : goal.returns-in_err-window-clause-given
returns-in_err-window-clause-given c = λ f set is. subst (λ (r : Option InForce). IsInForceOf f set c.args.at c.args.summary.now r)
    (sym c.from_residual.ensures) (c.args.status.now, is.status_is, sym c.in_err-window.ensures)

pub returns-in_err-request-clause-given : goal.returns-in_err-request-clause-given
returns-in_err-request-clause-given c = λ f set is. subst (λ (r : Option InForce). IsInForceOf f set c.args.at c.args.summary.now r)
    (sym c.from_residual-in_err-request.ensures) (Disputed, c.in_err-request.ensures.disputed set is.stands, refl)

pub returns-clause-given : goal.returns-clause-given
returns-clause-given c = λ f set is.
    let q = c.in_ok-request.request.now in (
      c.args.status.now,
      is.status_is,
      sym c.in_ok-window.ensures,
      own_request set c.args.summary.now.request q c.in_ok-request.ensures.value (c.in_ok-request.ensures.alone set is.stands),
    )
