use Rattle.std.proofs.Common.{◌++◌, ◌∙◌, List, ℕ, ap, take}
use Rattle.std.specs.Prelude.{codes, string_bytes}
use Rattle.sudo_policy.specs.Printing.{item_text, signed_text, tail_text}
use Rattle.sudo_policy.proofs.Printed.{tail_more}
use Rattle.sudo_policy.proofs.printing.push_tail.Goals as goal

pub loop-item-preserved : goal.loop-item-preserved
loop-item-preserved g c =
    let items = c.args.items.now in
    let before = string_bytes c.args.out.now ++ tail_text (signed_text item_text) (take c.loop-item.item-index items) in
    c.in_ok-push_signed.ensures ∙ ap (λ (t : List ℕ). t ++ signed_text item_text c.item-item.result) (c.in_ok-push_str.ensures.bytes
    ∙ ap (λ (t : List ℕ). t ++ codes ", ") c.loop-item.invariant) ∙ ap (λ (t : List ℕ). (before ++ codes ", ") ++ t) (ap (signed_text item_text) c.item-item.is)
    ∙ tail_more (signed_text item_text) items c.loop-item.item-index c.item-item.result (string_bytes c.args.out.now) c.loop-item-test.true
