use Rattle.std.proofs.Common.{◌<◌, length}
use Rattle.sudo_syntax.specs.private.Tokens.{mark_byte, toks}
use Rattle.sudo_policy.specs.Grammar.{Listed}
use Rattle.sudo_syntax.proofs.Leads.{Leads}
use Rattle.sudo_syntax.proofs.ListLemmas.{Behind, Left}
use Rattle.sudo_syntax.proofs.items.list_at.Given as goal

abbrev pub invariant-loop-others : goal.invariant-loop-others
invariant-loop-others g l =
    let Is = g.T.Spelled.spells in
    let F = g.T.Spelled.follows in record {
      leads : Leads (Behind (mark_byte l.mark) Is F) (Listed (mark_byte l.mark) Is (toks l.tokens)) (Left (mark_byte l.mark) Is F l.items.items (toks l.rest));
      shorter : length l.rest < length l.tokens;
    }

abbrev pub decreases-loop-others : goal.decreases-loop-others
decreases-loop-others g l = length l.rest
