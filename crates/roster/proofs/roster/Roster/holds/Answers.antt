use Rattle.std.proofs.Common.{ℕ, List, ◌∙◌, ap, ap₂}
use Rattle.std.specs.List.{list_any}
use Rattle.roster.specs.Fields.{Entry}
use Rattle.roster.specs.Relations.{entry_of, gives, or_none}
use Rattle.roster.proofs.roster.Roster.holds.Goals as goal

pub returns : goal.returns
returns c =
    let entries = c.entries_of.ensures ∙ ap (λ (ps : List (List ℕ × List Entry)). or_none (entry_of ps c.args.person.now)) c.people.ensures.value in
    c.give.ensures ∙ ap₂ (λ (day : ℕ) (es : List Entry). list_any (gives c.args.duty.now day) es) c.day.ensures entries
