use Rattle.std.proofs.Common.{◌≡◌, ◌∙◌, length, get_or, ap, subst, sym}
use Rattle.std.specs.List.{AllByRecursion}
use Rattle.sudo_policy.specs.declared.entry.Signed.{Signed}
use Rattle.sudo_policy.specs.private.Lengths.{stopped}
use Rattle.sudo_policy.specs.Printing.{signed_text}
use Rattle.sudo_policy.proofs.LengthLemmas.{list_longer}
use Rattle.sudo_policy.proofs.Printed.{first_and_rest, each_at}
use Rattle.sudo_policy.proofs.lengths.list_len.Goals as goal

pub signed_len-requires : goal.signed_len-requires
signed_len-requires g c =
    subst (λ s. g.T.Lengthy.holds s.item) (sym c.first-item.is)
    (each_at (λ s. g.T.Lengthy.holds s.item) c.args.items.now 0 c.first-item.result c.requires c.in-len1-up.len_at_least)

pub tail_len-requires : goal.tail_len-requires
tail_len-requires g c =
    (subst (AllByRecursion (λ s. g.T.Lengthy.holds s.item)) (first_and_rest c.args.items.now c.first-item.result c.in-len1-up.len_at_least) c.requires).1

pub returns-in-len1-up : goal.returns-in-len1-up
returns-in-len1-up g c =
    let text = signed_text g.T.Lengthy.text in
    let first : c.signed_len.result ≡ stopped (length (text (get_or c.args.items.now 0 c.first-item.result))) =
    c.signed_len.ensures ∙ ap (λ (s : Signed g.row.T.Denot). stopped (length (text s))) c.first-item.is in
    c.plus.ensures
    ∙ list_longer text c.args.items.now c.first-item.result c.signed_len.result c.tail_len.result c.in-len1-up.len_at_least first c.tail_len.ensures
