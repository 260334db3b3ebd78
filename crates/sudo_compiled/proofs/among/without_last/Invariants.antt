use Rattle.std.proofs.Common.{length}
use Rattle.sudo_compiled.specs.Compiled.{AnswerAlikeFor}
use Rattle.sudo_compiled.proofs.among.without_last.Given as goal

-- what was passed is silent at each moment
abbrev pub invariant-loop-last : goal.invariant-loop-last
invariant-loop-last l = AnswerAlikeFor l.rules l.rest l.i

abbrev pub decreases-loop-last : goal.decreases-loop-last
decreases-loop-last l = length l.rest
