use Rattle.std.proofs.Common.{◌≡◌, ◌+◌, ◌*◌, reverse, take}
use Rattle.std.specs.List.{flat_map}
use Rattle.sudo_decide.specs.Kinds.{list_says_by}
use Rattle.sudo_decide.proofs.answer.+answers.Given as goal

-- a list asks its items, an item its alias, and an alias a list at a lower place
abbrev pub decreases-alias_answer : goal.decreases-alias_answer
decreases-alias_answer g l = 3 * l.below

abbrev pub decreases-item_answer : goal.decreases-item_answer
decreases-item_answer g l = 3 * l.below + 1

abbrev pub decreases-list_answer : goal.decreases-list_answer
decreases-list_answer g l = 3 * l.below + 2

abbrev pub invariant-list_answer-loop-x : goal.invariant-list_answer-loop-x
invariant-list_answer-loop-x g l = l.answer ≡ list_says_by (g.K.Kind.says l.i) (flat_map g.K.Kind.def (reverse (take l.below l.p))) (take l.x-index l.list)
