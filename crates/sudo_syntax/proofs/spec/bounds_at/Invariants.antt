use Rattle.std.proofs.Common.{◌≤◌, None, length}
use Rattle.sudo_syntax.specs.private.Tokens.{toks}
use Rattle.sudo_syntax.proofs.Leads.{Leads}
use Rattle.sudo_syntax.proofs.DateLemmas.{Ends, Left}
use Rattle.sudo_syntax.proofs.spec.bounds_at.Given as goal

abbrev pub invariant-loop-option : goal.invariant-loop-option
invariant-loop-option l = record {
  leads : Leads Ends (Left None None (toks l.tokens)) (Left l.read.0.not_before l.read.0.not_after (toks l.read.1.now));
  shorter : length l.read.1.now ≤ length l.tokens;
}

abbrev pub decreases-loop-option : goal.decreases-loop-option
decreases-loop-option l = length l.read.1.now
