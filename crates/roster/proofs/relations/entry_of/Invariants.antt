use Rattle.std.proofs.Common.{◌≤◌, ◌-◌, length, Less, Greater}
use Rattle.roster.proofs.Rising.{Compare}
use Rattle.roster.proofs.relations.entry_of.Given as goal

-- the entries below are before the name, and those above are after it
abbrev pub invariant-halves : goal.invariant-halves
invariant-halves g l = record {
  ends : l.low ≤ l.high;
  within : l.high ≤ length l.entries;
  below : Compare l.entries l.name Less 0 l.low;
  above : Compare l.entries l.name Greater l.high (length l.entries);
}

abbrev pub decreases-halves : goal.decreases-halves
decreases-halves g l = l.high - l.low
