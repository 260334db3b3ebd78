use Rattle.std.proofs.Common.{◌≡◌, ◌≤◌, length}
use Rattle.sudo_syntax.specs.private.Tokens.{toks}
use Rattle.sudo_syntax.proofs.Leads.{Leads}
use Rattle.sudo_syntax.proofs.ArgLemmas.{Fit, Whole, Left}
use Rattle.sudo_syntax.proofs.commands.args_at.Given as goal

abbrev pub invariant-loop-text : goal.invariant-loop-text
invariant-loop-text l = record {
  leads : Leads Fit (Whole (toks l.tokens)) (Left l.args.items (toks l.read.1.now));
  count : l.read.0 ≡ length l.args.items;
  few : l.read.0 ≤ 16;
  shorter : length l.read.1.now ≤ length l.tokens;
}

abbrev pub decreases-loop-text : goal.decreases-loop-text
decreases-loop-text l = length l.read.1.now
