use Rattle.std.proofs.Common.{ℕ, List, ◌∙◌, ap}
use Rattle.std.specs.Prelude.{is_some}
use Rattle.roster.specs.Fields.{Entry}
use Rattle.roster.specs.Relations.{entry_of}
use Rattle.roster.proofs.roster.Roster.has_person.Goals as goal

pub returns-in-Some : goal.returns-in-Some
returns-in-Some c = ap is_some (c.in-Some.ensures ∙ ap (λ (ps : List (List ℕ × List Entry)). entry_of ps c.args.person.now) c.people.ensures.value)

pub returns-in-None : goal.returns-in-None
returns-in-None c = ap is_some (c.in-None.ensures ∙ ap (λ (ps : List (List ℕ × List Entry)). entry_of ps c.args.person.now) c.people.ensures.value)
