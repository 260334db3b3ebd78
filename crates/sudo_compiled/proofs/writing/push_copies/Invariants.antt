use Rattle.std.proofs.Common.{take}
use Rattle.sudo_decide.specs.Decision.{signed_answer, list_answer}
use Rattle.sudo_compiled.specs.private.Writing.{Adds}
use Rattle.sudo_compiled.proofs.writing.push_copies.Given as goal

abbrev pub invariant-loop-x : goal.invariant-loop-x
invariant-loop-x g l = Adds g.K.Kind.plain l.fn.out.items l.out.items (λ i. signed_answer l.negated (list_answer (g.K.Kind.plain i) (take l.x-index l.list)))
