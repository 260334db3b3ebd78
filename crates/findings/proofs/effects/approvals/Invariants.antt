use Rattle.std.proofs.Common.{◌≡◌, [], map, drop}
use Rattle.findings.specs.Effects.{approvals_after}
use Rattle.findings.proofs.effects.approvals.Given as goal

-- The approvals so far and the approvals of the rest are all approvals.
abbrev pub invariant-loop-verdict : goal.invariant-loop-verdict
invariant-loop-verdict l =
    approvals_after l.roster.says l.ceiling (map (λ v. v.now) l.first.items) (drop l.verdict-index l.verdicts)
    ≡ approvals_after l.roster.says l.ceiling [] l.verdicts
