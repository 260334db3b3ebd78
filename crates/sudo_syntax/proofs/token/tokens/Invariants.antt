use Rattle.std.proofs.Common.{length}
use Rattle.sudo_syntax.specs.private.Tokens.{toks}
use Rattle.sudo_syntax.proofs.TokenLemmas.{Leads}
use Rattle.sudo_syntax.proofs.token.tokens.Given as goal

abbrev pub invariant-loop-out : goal.invariant-loop-out
invariant-loop-out l = Leads l.line (toks l.out.items) l.rest

abbrev pub decreases-loop-out : goal.decreases-loop-out
decreases-loop-out l = length l.rest
