use Rattle.std.proofs.Common.{ℕ, List, Some, ◌∙◌, ap}
use Rattle.roster.specs.Fields.{Entry}
use Rattle.roster.specs.Relations.{entry_of}
use Rattle.roster.proofs.roster.Roster.entries.Goals as goal

pub returns-in-Some : goal.returns-in-Some
returns-in-Some c =
    ap Some c.as_slice.ensures ∙ c.in-Some.ensures ∙ ap (λ (ps : List (List ℕ × List Entry)). entry_of ps c.args.person.now) c.people.ensures.value

pub returns-in-None : goal.returns-in-None
returns-in-None c = c.in-None.ensures ∙ ap (λ (ps : List (List ℕ × List Entry)). entry_of ps c.args.person.now) c.people.ensures.value
