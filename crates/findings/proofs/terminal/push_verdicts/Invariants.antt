use Rattle.std.proofs.Common.{◌≡◌, ◌++◌, drop, string_bytes}
use Rattle.std.specs.List.{flat_map}
use Rattle.findings.specs.Judging.{effect_on}
use Rattle.findings.specs.Terminal.{verdict_line}
use Rattle.findings.proofs.terminal.push_verdicts.Given as goal

abbrev pub invariant-loop-verdict : goal.invariant-loop-verdict
invariant-loop-verdict l =
    let effect_of = effect_on l.judged.roster.now.says l.judged.entry.now l.judged.complete in
    string_bytes l.out ++ flat_map (λ v. verdict_line (effect_of v) v) (drop l.verdict-index l.verdicts)
    ≡ string_bytes l.fn.out ++ flat_map (λ v. verdict_line (effect_of v) v) l.verdicts
