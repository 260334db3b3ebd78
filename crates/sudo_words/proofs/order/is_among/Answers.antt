use Rattle.std.proofs.Common.{◌∙◌}
use Rattle.sudo_words.proofs.Halving.{among}
use Rattle.sudo_words.proofs.order.is_among.Goals as goal

pub returns : goal.returns
returns g c =
    c.is_ok.ensures.value ∙ among g.met.T.Ord.total g.met.T.Ord.matches_eq c.args.elements.now c.args.x.now
    c.binary_search.result c.requires c.binary_search.ensures.bound c.binary_search.ensures.position
