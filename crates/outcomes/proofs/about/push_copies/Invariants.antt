use Rattle.std.proofs.Common.{◌≡◌, ◌++◌, map, take}
use Rattle.outcomes.proofs.GatherLemmas.{of_verdict}
use Rattle.outcomes.proofs.about.push_copies.Given as goal

abbrev pub invariant-loop-verdict : goal.invariant-loop-verdict
invariant-loop-verdict l = l.list.items ≡ l.fn.list.items ++ map of_verdict (take l.verdict-index l.verdicts)
