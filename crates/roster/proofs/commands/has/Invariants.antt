use Rattle.std.proofs.Common.{◌≤◌, ◌-◌, length, Less, Greater}
use Rattle.roster.proofs.CommandLemmas.{Rank}
use Rattle.roster.proofs.commands.has.Given as goal

-- the commands below are less than the place that is looked for, and those above greater
abbrev pub invariant-halves : goal.invariant-halves
invariant-halves l = record {
  ends : l.low ≤ l.high;
  within : l.high ≤ length l.ordered;
  below : Rank l.ordered l.wanted Less 0 l.low;
  above : Rank l.ordered l.wanted Greater l.high (length l.ordered);
}

abbrev pub decreases-halves : goal.decreases-halves
decreases-halves l = l.high - l.low
