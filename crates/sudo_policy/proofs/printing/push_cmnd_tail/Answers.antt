use Rattle.std.proofs.Common.{◌++◌, ◌∙◌, List, ℕ, ap, take, subst, sym}
use Rattle.std.specs.Prelude.{codes, string_bytes}
use Rattle.sudo_policy.specs.declared.entry.Signed.{Signed}
use Rattle.sudo_policy.specs.declared.entry.CmndItem.{CmndItem}
use Rattle.sudo_policy.specs.Printing.{cmnd_item_text, signed_text, tail_text}
use Rattle.sudo_policy.specs.Policy.{IsCmndItem}
use Rattle.sudo_policy.proofs.Printed.{tail_more, each_at}
use Rattle.sudo_policy.proofs.printing.push_cmnd_tail.Goals as goal

pub push_cmnd-requires : goal.push_cmnd-requires
push_cmnd-requires c =
    let P : Signed CmndItem → Type 0 = λ s. IsCmndItem s.item in
    subst P (sym c.item-item.is) (each_at P c.args.items.now c.loop-item.item-index c.item-item.result c.requires c.loop-item-test.true)

pub loop-item-preserved : goal.loop-item-preserved
loop-item-preserved c =
    let items = c.args.items.now in
    let before = string_bytes c.args.out.now ++ tail_text (signed_text cmnd_item_text) (take c.loop-item.item-index items) in
    c.in_ok-push_cmnd.ensures ∙ ap (λ (t : List ℕ). t ++ signed_text cmnd_item_text c.item-item.result)
    (c.in_ok-push_str.ensures.bytes ∙ ap (λ (t : List ℕ). t ++ codes ", ") c.loop-item.invariant)
    ∙ ap (λ (t : List ℕ). (before ++ codes ", ") ++ t) (ap (signed_text cmnd_item_text) c.item-item.is)
    ∙ tail_more (signed_text cmnd_item_text) items c.loop-item.item-index c.item-item.result (string_bytes c.args.out.now) c.loop-item-test.true
