use Rattle.std.proofs.Common.{drop, string_bytes}
use Rattle.findings.specs.Terminal.{AreEntryLines, those_under}
use Rattle.findings.proofs.LineLemmas.{AddsMore}
use Rattle.findings.proofs.terminal.push_entries.Given as goal

abbrev pub invariant-loop-entry : goal.invariant-loop-entry
invariant-loop-entry l =
    AddsMore (AreEntryLines l.roster.says l.until) (those_under l.is_asked l.entries)
    (those_under l.is_asked (drop l.entry-index l.entries)) (string_bytes l.fn.out) (string_bytes l.out)
