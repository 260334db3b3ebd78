use Rattle.std.proofs.Common.{◌≡◌, take}
use Rattle.std.specs.Prelude.{string_bytes}
use Rattle.sudo_policy.specs.Printing.{canon}
use Rattle.sudo_policy.proofs.printing.printed.Given as goal

abbrev pub invariant-loop-entry : goal.invariant-loop-entry
invariant-loop-entry l = string_bytes l.out ≡ canon (take l.entry-index l.entries)
