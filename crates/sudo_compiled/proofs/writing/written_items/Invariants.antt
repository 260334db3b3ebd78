use Rattle.std.proofs.Common.{◌≡◌, take}
use Rattle.sudo_decide.specs.declared.invocation.Invocation.{Invocation}
use Rattle.sudo_decide.specs.Decision.{list_answer}
use Rattle.sudo_compiled.specs.private.Writing.{known_says}
use Rattle.sudo_compiled.proofs.writing.written_items.Given as goal

abbrev pub invariant-loop-x : goal.invariant-loop-x
invariant-loop-x g l = (i : Invocation)
    → list_answer (g.K.Kind.plain i) l.out.items ≡ list_answer (g.K.Kind.says i (known_says (g.K.Kind.plain i) l.known)) (take l.x-index l.list)
