use Rattle.std.proofs.Common.{◌≡◌, ◌++◌, take}
use Rattle.sudo_decide.specs.Reach.{rules_in}
use Rattle.sudo_beyond.specs.Cases.{turns}
use Rattle.sudo_beyond.proofs.moments.push_turns.Given as goal

abbrev pub invariant-loop-entry : goal.invariant-loop-entry
invariant-loop-entry l = l.moments.items ≡ l.fn.moments.items ++ turns (rules_in (take l.entry-index l.entry-items))
