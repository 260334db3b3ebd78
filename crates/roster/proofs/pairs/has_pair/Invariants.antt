use Rattle.std.proofs.Common.{◌≤◌, ◌-◌, length, Less, Greater}
use Rattle.roster.proofs.PairLemmas.{Rank}
use Rattle.roster.proofs.pairs.has_pair.Given as goal

-- the pairs below are less than the one that is looked for, and those above greater
abbrev pub invariant-halves : goal.invariant-halves
invariant-halves l = record {
  ends : l.low ≤ l.high;
  within : l.high ≤ length l.ordered;
  below : Rank l.ordered (l.first, l.second) Less 0 l.low;
  above : Rank l.ordered (l.first, l.second) Greater l.high (length l.ordered);
}

abbrev pub decreases-halves : goal.decreases-halves
decreases-halves l = l.high - l.low
