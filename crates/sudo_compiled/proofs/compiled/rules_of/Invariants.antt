use Rattle.std.proofs.Common.{List, length, reverse}
use Rattle.std.specs.List.{AllByRecursion}
use Rattle.sudo_policy.specs.declared.entry.Entry.{Entry}
use Rattle.sudo_decide.specs.declared.invocation.Invocation.{Invocation}
use Rattle.sudo_compiled.specs.private.Writing.{CoversEntry}
use Rattle.sudo_compiled.proofs.Taking.{Taken}
use Rattle.sudo_compiled.proofs.compiled.rules_of.Given as goal

abbrev pub invariant-loop-entry : goal.invariant-loop-entry
invariant-loop-entry l =
    (defined : List Entry) (i : Invocation) → AllByRecursion (CoversEntry defined l.known) (reverse l.initial.rest.items)
    → Taken defined (reverse l.initial.rest.items) l.rest.items l.rules.items i

abbrev pub decreases-loop-entry : goal.decreases-loop-entry
decreases-loop-entry l = length l.rest.items
