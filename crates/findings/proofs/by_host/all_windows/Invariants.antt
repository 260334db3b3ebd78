use Rattle.std.proofs.Common.{◌≡◌, ◌++◌, drop}
use Rattle.std.specs.List.{flat_map}
use Rattle.findings.specs.Windows.{windows_of}
use Rattle.findings.proofs.by_host.all_windows.Given as goal

abbrev pub invariant-loop-entry : goal.invariant-loop-entry
invariant-loop-entry l = l.list.items ++ flat_map (windows_of l.pick) (drop l.entry-index l.entries) ≡ flat_map (windows_of l.pick) l.entries
