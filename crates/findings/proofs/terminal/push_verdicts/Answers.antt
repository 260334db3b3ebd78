use Rattle.std.proofs.Common.{◌++◌, string_bytes, ap, ◌∙◌}
use Rattle.std.specs.List.{flat_map}
use Rattle.messages.specs.Fields.{VerdictFields}
use Rattle.findings.specs.Judging.{effect_on}
use Rattle.findings.specs.Terminal.{verdict_line}
use Rattle.findings.specs.declared.effects.Effect.{Effect}
use Rattle.findings.proofs.JoinedLemmas.{flat_more}
use Rattle.findings.proofs.terminal.push_verdicts.Goals as goal

pub loop-verdict-preserved : goal.loop-verdict-preserved
loop-verdict-preserved c =
    let l = c.loop-verdict in
    let j = c.args.judged.now in
    let effect_of = effect_on j.roster.now.says j.entry.now j.complete in
    let vs = c.args.verdicts.now in
    let out = string_bytes l.out in
    flat_more (λ (v : VerdictFields). verdict_line (effect_of v) v) vs l.verdict-index out
    (string_bytes c.args.out.now ++ flat_map (λ v. verdict_line (effect_of v) v) vs) l.invariant
    c.verdict-item.result (string_bytes c.push_verdict.new.out) c.loop-verdict-test.true c.verdict-item.is
    (c.in_ok-push_verdict.ensures ∙ ap (λ (e : Effect). out ++ verdict_line e c.verdict-item.result) c.effect.ensures)
