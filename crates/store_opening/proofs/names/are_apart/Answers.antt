use Rattle.std.proofs.Common.{◌∙◌, sym, ap, Bool, not, true, false, refl, ◌≡◌}
use Rattle.store_opening.specs.private.Names.{repeats}
use Rattle.store_opening.proofs.NameLemmas.{each_once}
use Rattle.store_opening.proofs.names.are_apart.Goals as goal

no_repeats : (b : Bool) → not b ≡ true → b ≡ false
no_repeats true h = sym h
no_repeats false h = refl

pub returns : goal.returns
returns c is =
    each_once c.args.names.items c.sort_unstable.new.self.items c.sort_unstable.ensures.permutation c.sort_unstable.ensures.sorted
    (sym (c.repeats.ensures ∙ ap repeats c.as_slice.ensures.value) ∙ no_repeats c.repeats.result is)
