use Rattle.std.proofs.Common.{◌≡◌, true, false, not, sym, ap, ◌∙◌, arith}
use Rattle.std.proofs.lemmas.Slice.Eq.{bytes_eq-Decides}
use Rattle.relay_http.proofs.request.written.Goals as goal

pub returns-then-number-gt-LAST_NUMBER-clause-only : goal.returns-then-number-gt-LAST_NUMBER-clause-only
returns-then-number-gt-LAST_NUMBER-clause-only c = λ is. absurd (omega (arith, is.0, c.if-number-gt-LAST_NUMBER.true))

pub returns-then-ne-clause-only : goal.returns-then-ne-clause-only
returns-then-ne-clause-only c = λ is.
    let same = (bytes_eq-Decides c.format.result.now c.args.text.now).1 (c.format.ensures.text ∙ sym is.1) in
    let wrong : true ≡ false = sym c.if-ne.true ∙ c.ne.ensures ∙ ap not same in
    absurd cc
