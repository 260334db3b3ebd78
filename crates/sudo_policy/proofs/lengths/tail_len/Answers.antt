use Rattle.std.proofs.Common.{◌≡◌, ℕ, ◌+◌, length, get_or, ap, ◌∙◌, subst, sym}
use Rattle.sudo_policy.specs.private.Lengths.{stopped}
use Rattle.sudo_policy.specs.Printing.{signed_text}
use Rattle.sudo_policy.proofs.LengthLemmas.{tail_longer}
use Rattle.sudo_policy.proofs.Printed.{each_at}
use Rattle.sudo_policy.proofs.lengths.tail_len.Goals as goal

pub signed_len-requires : goal.signed_len-requires
signed_len-requires g c =
    subst (λ s. g.T.Lengthy.holds s.item) (sym c.item-item.is)
    (each_at (λ s. g.T.Lengthy.holds s.item) c.args.items.now c.loop-item.item-index c.item-item.result c.requires c.loop-item-test.true)

pub loop-item-preserved : goal.loop-item-preserved
loop-item-preserved g c =
    let items = c.args.items.now in
    let more : c.signed_len.result ≡ stopped (length (signed_text g.T.Lengthy.text (get_or items c.loop-item.item-index c.item-item.result))) =
    c.signed_len.ensures ∙ ap (λ s. stopped (length (signed_text g.T.Lengthy.text s))) c.item-item.is in
    c.plus-len.ensures ∙ ap (λ (n : ℕ). stopped (n + c.signed_len.result)) c.plus.ensures ∙ tail_longer (signed_text g.T.Lengthy.text)
    items c.loop-item.item-index c.item-item.result c.loop-item.len c.signed_len.result c.loop-item-test.true c.loop-item.invariant more
