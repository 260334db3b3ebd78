use Rattle.std.proofs.Common.{◌∙◌}
use Rattle.store_opening.proofs.NameLemmas.{name_found}
use Rattle.store_opening.proofs.names.is_among.Goals as goal

pub returns : goal.returns
returns c = c.is_ok.ensures.value
    ∙ name_found c.args.names.now c.requires c.args.name.now c.binary_search.result c.binary_search.ensures.bound c.binary_search.ensures.position
