use Rattle.std.proofs.Common.{drop, string_bytes}
use Rattle.findings.specs.Document.{IsEntryText}
use Rattle.findings.proofs.JoinedLemmas.{AddsRest}
use Rattle.findings.proofs.document.push_entries.Given as goal

abbrev pub invariant-loop-entry : goal.invariant-loop-entry
invariant-loop-entry l =
    AddsRest (IsEntryText l.roster.says l.until) l.entries (drop l.entry-index l.entries) l.is_first (string_bytes l.fn.out) (string_bytes l.out)
