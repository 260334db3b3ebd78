use Rattle.std.proofs.Common.{◌++◌, string_bytes, List, ℕ, ap, ◌∙◌}
use Rattle.std.specs.Prelude.{codes}
use Rattle.review.proofs.ReportLists.{texts_more}
use Rattle.review.proofs.reporting.push_texts.Goals as goal

pub loop-text-preserved : goal.loop-text-preserved
loop-text-preserved c =
    let mid = string_bytes c.loop-text.out in
    texts_more string_bytes c.args.texts.now c.loop-text.text-index c.text-item.result (string_bytes c.args.out.now) mid
    (string_bytes c.push_str-in-loop-text.new.self) c.loop-text-test.true c.text-item.is c.loop-text.invariant (c.in_ok-push_str-2.ensures.bytes
    ∙ ap (λ (t : List ℕ). t ++ codes "\n") (c.in_ok-push_str.ensures.bytes ∙ ap (λ (t : List ℕ). mid ++ t) c.as_str.ensures.value))
