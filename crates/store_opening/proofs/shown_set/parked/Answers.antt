use Rattle.std.proofs.Common.{◌≡◌, ◌∙◌, ap, sym}
use Rattle.std.proofs.lemmas.Result.{err_from_is_err_and}
use Rattle.sqlite.specs.Order.{Row, column}
use Rattle.messages.specs.declared.message.Message.{Message}
use Rattle.messages.specs.declared.message.Message.TheVariants.{Verdict}
use Rattle.store_opening.proofs.CellLemmas.{not_both}
use Rattle.store_opening.proofs.shown_set.parked.Goals as goal

pub returns-in_err-message : goal.returns-in_err-message
returns-in_err-message c = λ shown is.
    let no = c.in_err-message.ensures (Verdict shown) is.keepable (ap (λ (r : Row). column r 1) is.is) in
    let p = err_from_is_err_and c.from_residual.result c.from_residual.ensures.1 in
    rw (p.1, p.2) no

pub returns-in-Verdict : goal.returns-in-Verdict
returns-in-Verdict c = λ shown is.
    let said = c.in_ok-message.ensures (Verdict shown) is.keepable (ap (λ (r : Row). column r 1) is.is) in
    let same : ◌≡◌ {A = Message} (Verdict c.in-Verdict.verdict) (Verdict shown) = sym c.in-Verdict.is ∙ said in
    cc

pub returns : goal.returns
returns c = λ shown is stray. not_both c.in_ok-message.message shown c.in-Request.field-0
    (c.in_ok-message.ensures (Verdict shown) is.keepable (ap (λ (r : Row). column r 1) is.is)) c.in-Request.is
