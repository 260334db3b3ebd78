use Rattle.std.proofs.Common.{reverse, take}
use Rattle.sudo_compiled.specs.private.Writing.{AreKnown}
use Rattle.sudo_compiled.proofs.aliases.Aliases.entered.Given as goal

abbrev pub invariant-loop-entry : goal.invariant-loop-entry
invariant-loop-entry l = AreKnown l.used (reverse (take l.entry-index l.entries)) l.known
