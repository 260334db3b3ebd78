use Rattle.std.proofs.Common.{◌∙◌, ap}
use Rattle.std.specs.List.{list_any}
use Rattle.roster.specs.Relations.{joins}
use Rattle.roster.proofs.PairLemmas.{any_in_order}
use Rattle.roster.proofs.conflicts.Conflicts.joins.Goals as goal

pub returns : goal.returns
returns c =
    let test = joins c.args.first.now c.args.second.now in
    let inside = c.self.inside in
    c.are_paired.ensures ∙ ap (list_any test) c.as_slice.ensures ∙ any_in_order inside.listed inside.ordered c.self.invariant test
    ∙ ap (list_any test) c.self.view_is
