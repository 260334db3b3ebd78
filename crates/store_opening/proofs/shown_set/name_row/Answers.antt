use Rattle.std.proofs.Common.{◌≡◌, ◌∙◌, ap, sym}
use Rattle.sqlite.specs.Order.{Row, column}
use Rattle.messages.specs.declared.message.Message.{Message}
use Rattle.messages.specs.declared.message.Message.TheVariants.{Request}
use Rattle.store_opening.proofs.CellLemmas.{not_both}
use Rattle.store_opening.proofs.shown_set.name_row.Goals as goal

pub returns-in-Request : goal.returns-in-Request
returns-in-Request c = λ shown is.
    let flag = c.in_ok-is_disputed.ensures shown.is_disputed (ap (λ (r : Row). column r 4) is.is) in
    let said = c.in_ok-message.ensures (Request shown.request) is.keepable (ap (λ (r : Row). column r 3) is.is) in
    let d : c.in_ok-is_disputed.is_disputed ≡ shown.is_disputed = cc in
    let same : ◌≡◌ {A = Message} (Request c.in-Request.request) (Request shown.request) = sym c.in-Request.is ∙ said in
    let q : c.in-Request.request ≡ shown.request = cc in
    λ i. record { request = q i; is_disputed = d i }

pub returns : goal.returns
returns c = λ shown is stray. not_both c.in_ok-message.message c.in-Verdict.field-0 shown.request c.in-Verdict.is
    (c.in_ok-message.ensures (Request shown.request) is.keepable (ap (λ (r : Row). column r 3) is.is))
