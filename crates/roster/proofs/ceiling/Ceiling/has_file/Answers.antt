use Rattle.std.proofs.Common.{◌∙◌, ap, ap₂}
use Rattle.std.specs.List.{list_any}
use Rattle.sudo_words.specs.declared.cmnd.Cmnd.{Cmnd}
use Rattle.sudo_words.specs.declared.cmnd.Cmnd.TheVariants.{Path}
use Rattle.roster.specs.Commands.{is_file}
use Rattle.roster.specs.private.LookupOrders.{is_at, place}
use Rattle.roster.specs.Fields.{CeilingFields}
use Rattle.roster.proofs.CommandLemmas.{at_file, found_in_order}
use Rattle.roster.proofs.ceiling.Ceiling.has_file.Goals as goal

pub returns : goal.returns
returns c =
    let inside = c.self.inside in
    c.has.ensures ∙ ap₂ (λ p cs. list_any (is_at p) cs) c.place_of_file.ensures c.as_slice.ensures
    ∙ found_in_order inside.commands inside.ordered c.self.invariant.1 (place (Path c.args.file.now c.args.rule.now)) (is_file c.args.file.now c.args.rule.now)
    (at_file c.args.file.now c.args.rule.now) ∙ ap (λ (v : CeilingFields Cmnd). list_any (is_file c.args.file.now c.args.rule.now) v.commands) c.self.view_is
