use Rattle.roster.specs.Rules.{is_named_entry}
use Rattle.roster.proofs.Loop.{Kept}
use Rattle.roster.proofs.named.entries.Given as goal

abbrev pub invariant-loop-text : goal.invariant-loop-text
invariant-loop-text l = Kept is_named_entry l.texts l.text-index l.entries.items
