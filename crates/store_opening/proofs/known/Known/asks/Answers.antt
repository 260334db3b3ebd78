use Rattle.std.proofs.Common.{sym, subst, ◌∙◌}
use Rattle.std.specs.List.{list_any}
use Rattle.std.specs.List.Sorted.{IsSorted}
use Rattle.store_opening.specs.private.Names.{is_at, name_cmp}
use Rattle.store_opening.proofs.known.Known.asks.Goals as goal

pub is_among-requires : goal.is_among-requires
is_among-requires c = subst (IsSorted name_cmp) (sym c.as_slice.ensures.value) c.requires.names_rise

pub returns : goal.returns
returns c =
    c.is_among.ensures ∙ (λ i. list_any (is_at (c.name_key-name.ensures.by i) (c.name_key-name.ensures.number i)) (c.as_slice.ensures.value i))
    ∙ c.requires.asks c.args.asker.now c.args.number
