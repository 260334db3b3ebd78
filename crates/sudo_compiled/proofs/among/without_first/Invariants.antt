use Rattle.std.proofs.Common.{length}
use Rattle.sudo_compiled.specs.Compiled.{AnswerAlikeFor}
use Rattle.sudo_compiled.proofs.among.without_first.Given as goal

-- what was passed is silent at each moment
abbrev pub invariant-loop-first : goal.invariant-loop-first
invariant-loop-first l = AnswerAlikeFor l.rules l.rest l.i

abbrev pub decreases-loop-first : goal.decreases-loop-first
decreases-loop-first l = length l.rest
