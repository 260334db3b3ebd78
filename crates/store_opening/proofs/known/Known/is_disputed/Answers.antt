use Rattle.std.proofs.Common.{Option, Some, ap, subst, ◌∙◌}
use Rattle.std.specs.List.{list_any}
use Rattle.store_opening.specs.declared.names.Asked.{Asked}
use Rattle.store_opening.specs.private.Names.{IsTold, is_at}
use Rattle.store_opening.proofs.IndexLemmas.{disputed_of, none_disputed}
use Rattle.store_opening.proofs.known.Known.is_disputed.Goals as goal

pub returns-in-Some : goal.returns-in-Some
returns-in-Some c =
    let m = c.args.stored.now in
    let told : IsTold m (Some c.in-Some.one) = subst (λ (o : Option Asked). IsTold m o) c.in-Some.is c.told.ensures in
    let test = is_at c.in-Some.one.name.by.now c.in-Some.one.name.number in
    c.is_among.ensures ∙ ap (list_any test) c.as_slice.ensures.value
    ∙ disputed_of c.args.self.now.all.now c.args.self.now.names.items c.args.self.now.disputed.items c.requires.index m c.requires.known c.in-Some.one told

pub returns-in-None : goal.returns-in-None
returns-in-None c =
    none_disputed c.args.self.now.all.now c.args.stored.now (subst (λ (o : Option Asked). IsTold c.args.stored.now o) c.in-None.is c.told.ensures)
