use Rattle.std.proofs.Common.{◌++◌, true, string_bytes, ap, ◌∙◌}
use Rattle.std.specs.Prelude.{codes}
use Rattle.messages.specs.Fields.{VerdictFields}
use Rattle.findings.specs.Document.{each_json, joined, verdict_json}
use Rattle.findings.specs.Judging.{effect_on}
use Rattle.findings.specs.declared.effects.Effect.{Effect}
use Rattle.findings.proofs.JoinedLemmas.{joined_more}
use Rattle.findings.proofs.document.push_verdicts.Goals as goal

pub loop-verdict-preserved : goal.loop-verdict-preserved
loop-verdict-preserved c =
    let l = c.loop-verdict in
    let j = c.args.judged.now in
    let effect_of = effect_on j.roster.now.says j.entry.now j.complete in
    let vs = c.args.verdicts.now in
    let mid = string_bytes c.push_comma.new.out in
    joined_more (λ (v : VerdictFields). verdict_json (effect_of v) v) vs l.verdict-index l.is_first (string_bytes l.out)
    ((string_bytes c.args.out.now ++ codes ",\"verdicts\":[") ++ joined true (each_json effect_of vs)) l.invariant c.verdict-item.result
    mid (string_bytes c.push_verdict.new.out) c.loop-verdict-test.true c.verdict-item.is
    c.in_ok-push_comma.ensures
    (c.in_ok-push_verdict.ensures ∙ ap (λ (e : Effect). mid ++ verdict_json e c.verdict-item.result) c.effect.ensures)
