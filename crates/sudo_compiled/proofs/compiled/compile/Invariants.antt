use Rattle.std.proofs.Common.{reverse, take}
use Rattle.sudo_decide.specs.declared.invocation.Invocation.{Invocation}
use Rattle.sudo_decide.specs.Decision.{DecidesBy}
use Rattle.sudo_compiled.specs.Compiled.{answer}
use Rattle.sudo_compiled.proofs.compiled.compile.Given as goal

abbrev pub invariant-loop-entry : goal.invariant-loop-entry
invariant-loop-entry l = (i : Invocation) → DecidesBy (reverse l.p) (take l.entry-index l.entry-items) i (answer l.rules.items i)
