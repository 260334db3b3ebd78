use Rattle.std.proofs.Common.{◌≡◌, ◌<◌, ◌≤◌, [], length, drop}
use Rattle.sudo_policy.specs.Lines.{lines_of}
use Rattle.sudo_policy.specs.private.AliasKinds.{IsDraft}
use Rattle.sudo_syntax.specs.private.Pending.{Leads}
use Rattle.sudo_syntax.proofs.read.add_lines.Given as goal

abbrev pub invariant-loop-line : goal.invariant-loop-line
invariant-loop-line l = record {
  draft : IsDraft l.draft;
  place : l.here ≡ length l.yielded;
  leads : Leads [] (lines_of l.text) l.draft.entries.items l.pending.items (drop l.here (lines_of l.text));
  begun : 0 < length l.pending.items → 1 ≤ l.begins;
  within : l.begins ≤ l.here;
}
