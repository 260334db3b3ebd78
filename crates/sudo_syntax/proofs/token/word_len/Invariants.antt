use Rattle.std.proofs.Common.{length, List, ℕ}
use Rattle.sudo_syntax.proofs.WordLemmas.{IsFront}
use Rattle.sudo_syntax.proofs.token.word_len.Given as goal

abbrev pub invariant-loop-after : goal.invariant-loop-after
invariant-loop-after l = (front : List ℕ) × IsFront l.bytes front l.rest

abbrev pub decreases-loop-after : goal.decreases-loop-after
decreases-loop-after l = length l.rest
