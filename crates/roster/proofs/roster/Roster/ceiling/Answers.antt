use Rattle.std.proofs.Common.{ap, ◌∙◌, string_bytes}
use Rattle.roster.specs.Relations.{entry_of}
use Rattle.roster.specs.declared.roster.Roster.TheInside.{Inside}
use Rattle.roster.proofs.Ranges.{found_few}
use Rattle.roster.proofs.roster.Roster.ceiling.Goals as goal

pub returns-clause-needs : goal.returns-clause-needs
returns-clause-needs c =
    let label = c.args.label.now in
    let at =
    c.entry_of.ensures ∙ ap (λ es. entry_of es label) c.as_slice.ensures ∙ ap (λ (r : Inside). entry_of r.content.ceilings label) c.self-inside.view_is in
    found_few (string_bytes c.self.inside.text) c.self.inside.content label (λ r. r.now) c.entry_of.result c.self.invariant.0 at
