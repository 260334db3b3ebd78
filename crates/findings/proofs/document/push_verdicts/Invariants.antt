use Rattle.std.proofs.Common.{◌≡◌, ◌++◌, true, drop, string_bytes}
use Rattle.std.specs.Prelude.{codes}
use Rattle.findings.specs.Document.{each_json, joined}
use Rattle.findings.specs.Judging.{effect_on}
use Rattle.findings.proofs.document.push_verdicts.Given as goal

abbrev pub invariant-loop-verdict : goal.invariant-loop-verdict
invariant-loop-verdict l =
    let effect_of = effect_on l.judged.roster.now.says l.judged.entry.now l.judged.complete in
    string_bytes l.out ++ joined l.is_first (each_json effect_of (drop l.verdict-index l.verdicts))
    ≡ (string_bytes l.fn.out ++ codes ",\"verdicts\":[") ++ joined true (each_json effect_of l.verdicts)
