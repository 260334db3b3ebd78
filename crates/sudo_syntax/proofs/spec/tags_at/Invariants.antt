use Rattle.std.proofs.Common.{◌≤◌, length}
use Rattle.sudo_syntax.specs.private.Tokens.{toks}
use Rattle.sudo_syntax.specs.private.Fronts.{Tagged}
use Rattle.sudo_syntax.proofs.Leads.{Leads}
use Rattle.sudo_syntax.proofs.TagLemmas.{Ends, Left}
use Rattle.sudo_syntax.proofs.spec.tags_at.Given as goal

abbrev pub invariant-loop-tag : goal.invariant-loop-tag
invariant-loop-tag l = record {
  leads : Leads Ends (Tagged (toks l.tokens)) (Left l.read.0 (toks l.read.1.now));
  shorter : length l.read.1.now ≤ length l.tokens;
}

abbrev pub decreases-loop-tag : goal.decreases-loop-tag
decreases-loop-tag l = length l.read.1.now
