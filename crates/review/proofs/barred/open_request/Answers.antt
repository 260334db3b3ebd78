use Rattle.std.proofs.Common.{◌≡◌, ℕ, List, None, sym, ap, ◌∙◌, subst}
use Rattle.roster.specs.Relations.{ceiling_at}
use Rattle.review.specs.private.Reporting.{kept_name}
use Rattle.review.proofs.ReportParts.{open_ceiling, own_request}
use Rattle.review.proofs.barred.open_request.Goals as goal

pub returns-then-not-is_open : goal.returns-then-not-is_open
returns-then-not-is_open c = λ set is. (c.args.status.now, is.status_is, sym c.is_open.ensures ∙ c.if-not-is_open.true)

pub returns-in_err-ceiling : goal.returns-in_err-ceiling
returns-in_err-ceiling c = λ set is.
    let f = c.args.roster.now.says in
    let k = c.args.summary.now in
    let none : ceiling_at f c.in_ok-request.request.now.ceiling ≡ None =
    subst (λ (l : List ℕ). ceiling_at f l ≡ None) c.ceiling.ensures.value (sym c.in_err-ceiling.ensures.value) in
    absurd (open_ceiling f set (kept_name k) c.in_ok-request.request.now c.args.status.now is.status_is (sym c.is_open.ensures ∙ c.if-not-is_open.false)
    (own_request set k.request c.in_ok-request.request.now c.in_ok-request.ensures.value (c.in_ok-request.ensures.alone set is.stands)) none)

pub returns : goal.returns
returns c = λ set is.
    let k = c.args.summary.now in (
      c.args.status.now,
      is.status_is,
      sym c.is_open.ensures ∙ c.if-not-is_open.false,
      own_request set k.request c.in_ok-request.request.now c.in_ok-request.ensures.value (c.in_ok-request.ensures.alone set is.stands),
      c.in_ok-request.ensures.value,
      ap (ceiling_at c.args.roster.now.says) (sym c.ceiling.ensures.value) ∙ sym c.in_ok-ceiling.ensures.value,
    )
