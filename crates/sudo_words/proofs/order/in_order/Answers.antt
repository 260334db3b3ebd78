use Rattle.sudo_words.proofs.Lists.{each_once}
use Rattle.sudo_words.proofs.order.in_order.Goals as goal

pub returns : goal.returns
returns g c =
    each_once g.met.T.Ord.total g.met.T.Ord.matches_eq g.met.T.Eq.laws c.requires c.args.elements.items _ _
    c.sort_unstable.ensures.permutation c.sort_unstable.ensures.sorted c.dedup.ensures.filtered
